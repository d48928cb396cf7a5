-- What is found of a tree that was read: it is spelled so, its level, how deep it nests, and that it has no refused form.
use Rattle.std.proofs.Common.{◌≡◌, ℕ, suc, ◌≤◌, ◌<◌, inl, inr, Bool, true, false, ◌&&◌, IsTrue, List, [], ◌∷◌, length, refl, sym, ap, subst, arith}
use Rattle.alloy_lex.specs.declared.token.Place.{Place}
use Rattle.alloy_syntax.specs.declared.class.Class.TheVariants as class
use Rattle.alloy_syntax.specs.declared.tree.Name.{Name}
use Rattle.alloy_syntax.specs.declared.tree.Number.{Number}
use Rattle.alloy_syntax.specs.declared.tree.Quantifier.{Quantifier}
use Rattle.alloy_syntax.specs.declared.tree.Constant.{Constant}
use Rattle.alloy_syntax.specs.declared.tree.Prefix.{Prefix}
use Rattle.alloy_syntax.specs.declared.tree.Comparing.{Comparing}
use Rattle.alloy_syntax.specs.declared.parser_token.ParserToken.{ParserToken}
use Rattle.alloy_syntax.specs.Readers.{next_is}
use Rattle.alloy_syntax.specs.Nodes.{is_single}
use Rattle.alloy_syntax.specs.Tree.{Tree, named, numbered, constant, bracketed, block, prefixed, chain, path, compared, implies, implies_else, quantified, bound_by_let, Links, LinkTree, Trees, StepTree, Steps, joined, in_brackets, DeclarationTree, Declarations, BindingTree, Bindings, trees_of, links_of, steps_of, declarations_of, bindings_of}
use Rattle.alloy_grammar.specs.Fronts.{Front, ◌or◌, nothing, sign, mark_of, flag, spelled_as, name, number, mark, names, each}
use Rattle.alloy_grammar.specs.Levels.{or_level, implication_level, and_level, negation_level, comparison_level, counted_level, sum_level, path_level, tight_level, primary_level, level_of_operator, level_of_prefix, level_behind, level_of}
use Rattle.alloy_grammar.specs.Nodes.{class_of_constant, class_of_prefix, class_of_operator, class_of_quantifier, comparing, spells, spells_trees, spells_links, spells_steps, spells_declarations, spells_bindings, begins_operator, comma, body, is_block, has_steps}
use Rattle.alloy_grammar.specs.Depths.{depth_of, depth_inside, depth_of_links, depth_of_steps, depth_of_declarations, depth_of_bindings}
use Rattle.alloy_grammar.specs.Forms.{IsPlain, ArePlain, ArePlainLinks, ArePlainSteps, ArePlainDeclarations, ArePlainBindings, binds_several}
use Rattle.alloy_grammar.proofs.Results.{got, value_is, rest_is}

-- of a tree that binds at least so tightly, under fewer than so many constructs
pub record Found (strict : Bool) (room l : ℕ) (x : Tree) (ts rest : List ParserToken) : Type 0 where
  pub spelled : spells x ts rest
  pub level : l ≤ level_of x
  pub shallow : depth_of x < room
  pub plain : strict ≡ true → IsPlain x
  pub shorter : length rest < length ts

pub land : {strict : Bool} {room l : ℕ} {x y : Tree} {ts us rest : List ParserToken} → got x us ≡ got y rest → Found strict room l x ts us → Found strict room l y ts rest
land {strict} {room} {l} {x} {y} {ts} {us} {rest} e f =
    subst (λ (vs : List ParserToken). Found strict room l y ts vs) (rest_is x y us rest e) (subst (λ (z : Tree). Found strict room l z ts us) (value_is x y us rest e) f)

pub lowered : {strict : Bool} {room l : ℕ} {x : Tree} {ts rest : List ParserToken} → (m : ℕ) → m ≤ l → Found strict room l x ts rest → Found strict room m x ts rest
lowered m less f = record { spelled = f.spelled; level = omega arith; shallow = f.shallow; plain = f.plain; shorter = f.shorter }

-- ---- primaries

pub named_found : (strict : Bool) (room : ℕ) (n : Name) (ts rest : List ParserToken) → (name n or spelled_as class.Path n) ts rest → length rest < length ts → Found strict (suc room) primary_level (named n) ts rest
unfolding spells depth_of IsPlain
named_found strict room n ts rest s less = record { spelled = s; level = omega arith; shallow = omega arith; plain = λ _. tt; shorter = less }

pub numbered_found : (strict : Bool) (room : ℕ) (n : Number) (ts rest : List ParserToken) → number n ts rest → Found strict (suc room) primary_level (numbered n) ts rest
unfolding spells depth_of IsPlain
numbered_found strict room n ts rest s = record { spelled = s; level = omega arith; shallow = omega arith; plain = λ _. tt; shorter = omega (arith, ap length s.1) }

pub constant_found : (strict : Bool) (room : ℕ) (c : Constant) (p : Place) (ts rest : List ParserToken) → sign (class_of_constant c) p ts rest → Found strict (suc room) primary_level (constant c p) ts rest
unfolding spells depth_of IsPlain
constant_found strict room c p ts rest s = record { spelled = s; level = omega arith; shallow = omega arith; plain = λ _. tt; shorter = omega (arith, ap length s.1) }

module _ {strict : Bool} {room : ℕ} where
  pub bracketed_found : {x : Tree} {us vs : List ParserToken} (p : Place) (ts rest : List ParserToken) → sign class.LeftParen p ts us → Found strict room or_level x us vs → mark_of class.RightParen vs rest
      → Found strict (suc room) primary_level (bracketed p x) ts rest
  unfolding spells depth_of IsPlain
  bracketed_found {x} {us} {vs} p ts rest s f c = record {
    spelled = (us, s, (vs, f.spelled, c));
    level = omega arith;
    shallow = omega (arith, f.shallow);
    plain = f.plain;
    shorter = omega (arith, ap length s.1, ap length c.1, f.shorter);
  }

  pub prefixed_found : {x : Tree} {us rest : List ParserToken} (f : Prefix) (p : Place) (ts : List ParserToken) → sign (class_of_prefix f) p ts us → Found strict room (level_behind f) x us rest
      → Found strict (suc room) (level_of_prefix f) (prefixed f p x) ts rest
  unfolding spells depth_of IsPlain
  prefixed_found {x} {us} {rest} f p ts s g = record {
    spelled = (us, s, (g.level, g.spelled));
    level = omega arith;
    shallow = omega (arith, g.shallow);
    plain = g.plain;
    shorter = omega (arith, ap length s.1, g.shorter);
  }

  pub compared_found : {x y : Tree} {us vs rest : List ParserToken} (c : Comparing) (ts : List ParserToken) → Found strict (suc room) counted_level x ts us → comparing c us vs → length vs ≤ length us → Found strict (suc room) counted_level y vs rest
      → Found strict (suc room) comparison_level (compared x c y) ts rest
  unfolding spells depth_of IsPlain
  compared_found {x} {y} {us} {vs} {rest} c ts f s less g = record {
    spelled = (us, (f.level, f.spelled), (vs, s, (g.level, g.spelled)));
    level = omega arith;
    shallow = omega (arith, f.shallow, g.shallow);
    plain = λ h. (f.plain h, g.plain h);
    shorter = omega (arith, less, f.shorter, g.shorter);
  }

  pub implies_found : {x y : Tree} {us vs rest : List ParserToken} (p : Place) (ts : List ParserToken) → Found strict (suc room) and_level x ts us → sign class.Implies p us vs → Found strict room implication_level y vs rest → next_is class.Else rest ≡ false
      → Found strict (suc room) implication_level (implies x p y) ts rest
  unfolding spells depth_of IsPlain
  implies_found {x} {y} {us} {vs} {rest} p ts f s g fails = record {
    spelled = (us, (f.level, f.spelled), (vs, s, (rest, (g.level, g.spelled), (refl, fails))));
    level = omega arith;
    shallow = omega (arith, f.shallow, g.shallow);
    plain = λ h. (f.plain h, g.plain h);
    shorter = omega (arith, ap length s.1, f.shorter, g.shorter);
  }

  pub implies_else_found : {x y z : Tree} {us vs ws os rest : List ParserToken} (p : Place) (ts : List ParserToken) → Found strict (suc room) and_level x ts us → sign class.Implies p us vs → Found strict room implication_level y vs ws
      → mark_of class.Else ws os → Found strict room implication_level z os rest → Found strict (suc room) implication_level (implies_else x p y z) ts rest
  unfolding spells depth_of IsPlain
  implies_else_found {x} {y} {z} {us} {vs} {ws} {os} {rest} p ts f s g o k = record {
    spelled = (us, (f.level, f.spelled), (vs, s, (ws, (g.level, g.spelled), (os, o, (k.level, k.spelled)))));
    level = omega arith;
    shallow = omega (arith, f.shallow, g.shallow, k.shallow);
    plain = λ h. (f.plain h, g.plain h, k.plain h);
    shorter = omega (arith, ap length s.1, ap length o.1, f.shorter, g.shorter, k.shorter);
  }

-- ---- trees in brackets

pub record FoundTrees (strict : Bool) (room : ℕ) (first next : Front) (xs : Trees) (ts rest : List ParserToken) : Type 0 where
  pub spelled : spells_trees first next xs ts rest
  pub shallow : depth_inside xs ≤ room
  pub plain : strict ≡ true → ArePlain xs
  pub shorter : length rest ≤ length ts

-- a tree behind what stands before it
pub record FoundBehind (strict : Bool) (room l : ℕ) (next : Front) (x : Tree) (ts rest : List ParserToken) : Type 0 where
  pub behind : List ParserToken
  pub separator : next ts behind
  pub short : length behind ≤ length ts
  pub found : Found strict room l x behind rest

pub trees_found : (strict : Bool) (room : ℕ) (next : Front) (xs : List Tree) (ts rest : List ParserToken) → each (FoundBehind strict room or_level next) xs ts rest → FoundTrees strict room next next (trees_of xs) ts rest
unfolding spells_trees depth_inside ArePlain
trees_found strict room next [] ts rest p = record { spelled = p; shallow = omega arith; plain = λ _. tt; shorter = omega (arith, ap length p) }
trees_found strict room next (x ∷ xs) ts rest p =
    let f = p.1.found in
    let more = trees_found strict room next xs p.0 rest p.2 in
    record {
      spelled = (p.1.behind, p.1.separator, (p.0, f.spelled, more.spelled));
      shallow = omega (arith, f.shallow, more.shallow);
      plain = λ h. (f.plain h, more.plain h);
      shorter = omega (arith, p.1.short, f.shorter, more.shorter);
    }

-- the first without what stands before the others
pub first_found : (strict : Bool) (room : ℕ) (next : Front) (x : Tree) (xs : List Tree) (ts us rest : List ParserToken) → Found strict room or_level x ts us → each (FoundBehind strict room or_level next) xs us rest
    → FoundTrees strict room nothing next (trees_of (x ∷ xs)) ts rest
unfolding spells_trees depth_inside ArePlain
first_found strict room next x xs ts us rest f p =
    let more = trees_found strict room next xs us rest p in
    record {
      spelled = (ts, refl, (us, f.spelled, more.spelled));
      shallow = omega (arith, f.shallow, more.shallow);
      plain = λ h. (f.plain h, more.plain h);
      shorter = omega (arith, f.shorter, more.shorter);
    }

pub block_found : (strict : Bool) (room : ℕ) (p : Place) (xs : Trees) (ts us vs rest : List ParserToken) → sign class.LeftBrace p ts us → FoundTrees strict room nothing nothing xs us vs → mark_of class.RightBrace vs rest
    → Found strict (suc room) primary_level (block p xs) ts rest
unfolding spells depth_of IsPlain
block_found strict room p xs ts us vs rest s f c = record {
  spelled = (us, s, (vs, f.spelled, c));
  level = omega arith;
  shallow = omega (arith, f.shallow);
  plain = f.plain;
  shorter = omega (arith, ap length s.1, ap length c.1, f.shorter);
}

-- ---- chains

pub record FoundLink (strict : Bool) (room l : ℕ) (k : LinkTree) (ts rest : List ParserToken) : Type 0 where
  pub operator : level_of_operator k.operator ≡ l
  pub behind : List ParserToken
  pub word : sign (class_of_operator k.operator) k.place ts behind
  pub found : Found strict room (suc l) k.operand behind rest

pub record FoundLinks (strict : Bool) (room l : ℕ) (ks : Links) (ts rest : List ParserToken) : Type 0 where
  pub spelled : spells_links l ks ts rest
  pub shallow : depth_of_links ks < room
  pub plain : strict ≡ true → ArePlainLinks ks
  pub shorter : length rest ≤ length ts

pub links_found : (strict : Bool) (room l : ℕ) (ks : List LinkTree) (ts rest : List ParserToken) → each (FoundLink strict (suc room) l) ks ts rest → FoundLinks strict (suc room) l (links_of ks) ts rest
unfolding spells_links depth_of_links ArePlainLinks
links_found strict room l [] ts rest p = record { spelled = p; shallow = omega arith; plain = λ _. tt; shorter = omega (arith, ap length p) }
links_found strict room l (k ∷ ks) ts rest p =
    let f = p.1.found in
    let more = links_found strict room l ks p.0 rest p.2 in
    record {
      spelled = (p.1.behind, (p.1.operator, p.1.word), (p.0, (f.level, f.spelled), more.spelled));
      shallow = omega (arith, f.shallow, more.shallow);
      plain = λ h. (f.plain h, more.plain h);
      shorter = omega (arith, ap length p.1.word.1, f.shorter, more.shorter);
    }

pub chain_found : (strict : Bool) (room l : ℕ) (x : Tree) (k : LinkTree) (ks : List LinkTree) (ts us rest : List ParserToken) → Found strict (suc room) (suc l) x ts us → each (FoundLink strict (suc room) l) (k ∷ ks) us rest
    → Found strict (suc room) l (chain x (links_of (k ∷ ks))) ts rest
unfolding spells depth_of IsPlain
chain_found strict room l x k ks ts us rest f p =
    let more = links_found strict room l (k ∷ ks) us rest p in
    let spelled : spells (chain x (links_of (k ∷ ks))) ts rest = (refl, (us, (omega (arith, f.level, p.1.operator), f.spelled), subst (λ m. spells_links m (links_of (k ∷ ks)) us rest) (sym p.1.operator) more.spelled)) in
    record {
      spelled = spelled;
      level = omega (arith, p.1.operator);
      shallow = omega (arith, f.shallow, more.shallow);
      plain = λ h. (f.plain h, more.plain h);
      shorter = omega (arith, f.shorter, more.shorter);
    }

-- ---- paths

pub record FoundSteps (strict : Bool) (room : ℕ) (ss : Steps) (ts rest : List ParserToken) : Type 0 where
  pub spelled : spells_steps ss ts rest
  pub shallow : depth_of_steps ss < room
  pub plain : strict ≡ true → ArePlainSteps ss
  pub shorter : length rest ≤ length ts

-- a join, or brackets with what is in them
pub data FoundStep (strict : Bool) (room : ℕ) : StepTree → List ParserToken → List ParserToken → Type 0 where
  join_found : (p : Place) (x : Tree) (ts us rest : List ParserToken) → sign class.Dot p ts us → Found strict (suc room) tight_level x us rest → FoundStep strict room (joined p x) ts rest
  arguments_found : (p : Place) (xs : List Tree) (ts us vs rest : List ParserToken) → sign class.LeftBracket p ts us → FoundTrees strict room nothing comma (trees_of xs) us vs → mark_of class.RightBracket vs rest
      → FoundStep strict room (in_brackets p xs) ts rest

step_found : (strict : Bool) (room : ℕ) (s : StepTree) (ss : List StepTree) (ts us rest : List ParserToken) → FoundStep strict room s ts us → FoundSteps strict (suc room) (steps_of ss) us rest → FoundSteps strict (suc room) (steps_of (s ∷ ss)) ts rest
unfolding spells_steps depth_of_steps ArePlainSteps
step_found strict room _ ss _ us rest (join_found p x ts vs _ s f) more = record {
  spelled = (vs, s, (us, (f.level, f.spelled), more.spelled));
  shallow = omega (arith, f.shallow, more.shallow);
  plain = λ h. (f.plain h, more.plain h);
  shorter = omega (arith, ap length s.1, f.shorter, more.shorter);
}
step_found strict room _ ss _ us rest (arguments_found p xs ts vs ws _ s f c) more = record {
  spelled = (vs, s, (ws, f.spelled, (us, c, more.spelled)));
  shallow = omega (arith, f.shallow, more.shallow);
  plain = λ h. (f.plain h, more.plain h);
  shorter = omega (arith, ap length s.1, ap length c.1, f.shorter, more.shorter);
}

pub steps_found : (strict : Bool) (room : ℕ) (ss : List StepTree) (ts rest : List ParserToken) → each (FoundStep strict room) ss ts rest → FoundSteps strict (suc room) (steps_of ss) ts rest
unfolding spells_steps depth_of_steps ArePlainSteps
steps_found strict room [] ts rest p = record { spelled = p; shallow = omega arith; plain = λ _. tt; shorter = omega (arith, ap length p) }
steps_found strict room (s ∷ ss) ts rest p = step_found strict room s ss ts p.0 rest p.1 (steps_found strict room ss p.0 rest p.2)

has_first_step : (s : StepTree) (ss : List StepTree) → IsTrue (has_steps (steps_of (s ∷ ss)))
has_first_step (joined p x) ss = refl
has_first_step (in_brackets p xs) ss = refl

pub path_found : (strict : Bool) (room : ℕ) (x : Tree) (s : StepTree) (ss : List StepTree) (ts us rest : List ParserToken) → Found strict (suc room) tight_level x ts us → each (FoundStep strict room) (s ∷ ss) us rest
    → Found strict (suc room) path_level (path x (steps_of (s ∷ ss))) ts rest
unfolding spells depth_of IsPlain
path_found strict room x s ss ts us rest f p =
    let more = steps_found strict room (s ∷ ss) us rest p in
    record {
      spelled = (has_first_step s ss, (us, (f.level, f.spelled), more.spelled));
      level = omega arith;
      shallow = omega (arith, f.shallow, more.shallow);
      plain = λ h. (f.plain h, more.plain h);
      shorter = omega (arith, f.shorter, more.shorter);
    }

-- ---- declarations and bindings

pub record FoundDeclaration (strict : Bool) (room : ℕ) (next : Front) (d : DeclarationTree) (ts rest : List ParserToken) : Type 0 where
  pub behind : List ParserToken
  pub separator : next ts behind
  pub behind_word : List ParserToken
  pub word : flag class.Disj d.disjoint behind behind_word
  pub behind_names : List ParserToken
  pub named : names d.names behind_word behind_names
  pub behind_colon : List ParserToken
  pub colon : mark_of class.Colon behind_names behind_colon
  pub behind_mark : List ParserToken
  pub marked : mark d.mark behind_colon behind_mark
  pub found : Found strict room sum_level d.domain behind_mark rest
  pub shorter : length rest < length ts

pub record FoundDeclarations (strict : Bool) (room : ℕ) (first : Front) (ds : Declarations) (ts rest : List ParserToken) : Type 0 where
  pub spelled : spells_declarations first ds ts rest
  pub shallow : depth_of_declarations ds < room
  pub plain : strict ≡ true → ArePlainDeclarations ds
  pub shorter : length rest ≤ length ts

one_declaration : (strict : Bool) (room : ℕ) (next : Front) (d : DeclarationTree) (ds : List DeclarationTree) (ts us rest : List ParserToken) → FoundDeclaration strict room next d ts us → FoundDeclarations strict room comma (declarations_of ds) us rest
    → FoundDeclarations strict room next (declarations_of (d ∷ ds)) ts rest
unfolding spells_declarations depth_of_declarations ArePlainDeclarations
one_declaration strict room next d ds ts us rest f more =
    let x = f.found in
    record {
      spelled = (f.behind, f.separator, (f.behind_word, f.word, (f.behind_names, f.named, (f.behind_colon, f.colon, (f.behind_mark, f.marked, (us, (x.level, x.spelled), more.spelled))))));
      shallow = omega (arith, x.shallow, more.shallow);
      plain = λ h. (x.plain h, more.plain h);
      shorter = omega (arith, f.shorter, more.shorter);
    }

other_declarations : (strict : Bool) (room : ℕ) (ds : List DeclarationTree) (ts rest : List ParserToken) → each (FoundDeclaration strict (suc room) comma) ds ts rest → FoundDeclarations strict (suc room) comma (declarations_of ds) ts rest
unfolding spells_declarations depth_of_declarations ArePlainDeclarations
other_declarations strict room [] ts rest p = record { spelled = p; shallow = omega arith; plain = λ _. tt; shorter = omega (arith, ap length p) }
other_declarations strict room (d ∷ ds) ts rest p = one_declaration strict (suc room) comma d ds ts p.0 rest p.1 (other_declarations strict room ds p.0 rest p.2)

pub declarations_found : (strict : Bool) (room : ℕ) (d : DeclarationTree) (ds : List DeclarationTree) (ts us rest : List ParserToken) → FoundDeclaration strict (suc room) nothing d ts us → each (FoundDeclaration strict (suc room) comma) ds us rest
    → FoundDeclarations strict (suc room) nothing (declarations_of (d ∷ ds)) ts rest
declarations_found strict room d ds ts us rest f p = one_declaration strict (suc room) nothing d ds ts us rest f (other_declarations strict room ds us rest p)

pub record FoundBinding (strict : Bool) (room : ℕ) (next : Front) (b : BindingTree) (ts rest : List ParserToken) : Type 0 where
  pub behind : List ParserToken
  pub separator : next ts behind
  pub behind_name : List ParserToken
  pub named : name b.name behind behind_name
  pub behind_equal : List ParserToken
  pub equal : mark_of class.Equal behind_name behind_equal
  pub found : Found strict room sum_level b.value behind_equal rest
  pub shorter : length rest < length ts

pub record FoundBindings (strict : Bool) (room : ℕ) (first : Front) (bs : Bindings) (ts rest : List ParserToken) : Type 0 where
  pub spelled : spells_bindings first bs ts rest
  pub shallow : depth_of_bindings bs < room
  pub plain : strict ≡ true → ArePlainBindings bs
  pub shorter : length rest ≤ length ts

one_binding : (strict : Bool) (room : ℕ) (next : Front) (b : BindingTree) (bs : List BindingTree) (ts us rest : List ParserToken) → FoundBinding strict room next b ts us → FoundBindings strict room comma (bindings_of bs) us rest
    → FoundBindings strict room next (bindings_of (b ∷ bs)) ts rest
unfolding spells_bindings depth_of_bindings ArePlainBindings
one_binding strict room next b bs ts us rest f more =
    let x = f.found in
    record {
      spelled = (f.behind, f.separator, (f.behind_name, f.named, (f.behind_equal, f.equal, (us, (x.level, x.spelled), more.spelled))));
      shallow = omega (arith, x.shallow, more.shallow);
      plain = λ h. (x.plain h, more.plain h);
      shorter = omega (arith, f.shorter, more.shorter);
    }

other_bindings : (strict : Bool) (room : ℕ) (bs : List BindingTree) (ts rest : List ParserToken) → each (FoundBinding strict (suc room) comma) bs ts rest → FoundBindings strict (suc room) comma (bindings_of bs) ts rest
unfolding spells_bindings depth_of_bindings ArePlainBindings
other_bindings strict room [] ts rest p = record { spelled = p; shallow = omega arith; plain = λ _. tt; shorter = omega (arith, ap length p) }
other_bindings strict room (b ∷ bs) ts rest p = one_binding strict (suc room) comma b bs ts p.0 rest p.1 (other_bindings strict room bs p.0 rest p.2)

pub bindings_found : (strict : Bool) (room : ℕ) (b : BindingTree) (bs : List BindingTree) (ts us rest : List ParserToken) → FoundBinding strict (suc room) nothing b ts us → each (FoundBinding strict (suc room) comma) bs us rest
    → FoundBindings strict (suc room) nothing (bindings_of (b ∷ bs)) ts rest
bindings_found strict room b bs ts us rest f p = one_binding strict (suc room) nothing b bs ts us rest f (other_bindings strict room bs us rest p)

-- ---- bodies

-- a body behind declarations
pub record FoundBody (strict : Bool) (room : ℕ) (x : Tree) (ts rest : List ParserToken) : Type 0 where
  pub spelled : body x (spells x) ts rest
  pub shallow : depth_of x < room
  pub plain : strict ≡ true → IsPlain x
  pub shorter : length rest < length ts

pub barred : (strict : Bool) (room : ℕ) (x : Tree) (ts us rest : List ParserToken) → mark_of class.Bar ts us → Found strict room or_level x us rest → begins_operator rest ≡ false → FoundBody strict room x ts rest
barred strict room x ts us rest s f ends = record {
  spelled = inl (us, s, (rest, f.spelled, (refl, ends)));
  shallow = f.shallow;
  plain = f.plain;
  shorter = omega (arith, ap length s.1, f.shorter);
}

pub braced : (strict : Bool) (room : ℕ) (x : Tree) (ts rest : List ParserToken) → IsTrue (is_block x) → Found strict room primary_level x ts rest → FoundBody strict room x ts rest
braced strict room x ts rest is f = record { spelled = inr (is, f.spelled); shallow = f.shallow; plain = f.plain; shorter = f.shorter }

pub quantified_found : (strict : Bool) (room : ℕ) (q : Quantifier) (p : Place) (d : DeclarationTree) (ds : List DeclarationTree) (x : Tree) (ts us vs rest : List ParserToken) → sign (class_of_quantifier q) p ts us
    → FoundDeclarations strict (suc room) nothing (declarations_of (d ∷ ds)) us vs → (strict ≡ true → (is_single q && binds_several (declarations_of (d ∷ ds))) ≡ false) → FoundBody strict (suc room) x vs rest
    → Found strict (suc (suc room)) negation_level (quantified q p (declarations_of (d ∷ ds)) x) ts rest
unfolding spells depth_of IsPlain
quantified_found strict room q p d ds x ts us vs rest s f few g = record {
  spelled = (us, s, (vs, (refl, f.spelled), g.spelled));
  level = omega arith;
  shallow = omega (arith, f.shallow, g.shallow);
  plain = λ h. (few h, f.plain h, g.plain h);
  shorter = omega (arith, ap length s.1, f.shorter, g.shorter);
}

pub let_found : (strict : Bool) (room : ℕ) (p : Place) (b : BindingTree) (bs : List BindingTree) (x : Tree) (ts us vs rest : List ParserToken) → sign class.Let p ts us
    → FoundBindings strict (suc room) nothing (bindings_of (b ∷ bs)) us vs → FoundBody strict (suc room) x vs rest
    → Found strict (suc (suc room)) negation_level (bound_by_let p (bindings_of (b ∷ bs)) x) ts rest
unfolding spells depth_of IsPlain
let_found strict room p b bs x ts us vs rest s f g = record {
  spelled = (us, s, (vs, (refl, f.spelled), g.spelled));
  level = omega arith;
  shallow = omega (arith, f.shallow, g.shallow);
  plain = λ h. (f.plain h, g.plain h);
  shorter = omega (arith, ap length s.1, f.shorter, g.shorter);
}

pub no_arguments_found : (strict : Bool) (room : ℕ) (ts : List ParserToken) → FoundTrees strict room nothing comma (trees_of []) ts ts
unfolding spells_trees depth_inside ArePlain
no_arguments_found strict room ts = record { spelled = refl; shallow = omega arith; plain = λ _. tt; shorter = omega arith }

pub step_is_one : (strict : Bool) (room : ℕ) (s : StepTree) (ts rest : List ParserToken) → FoundStep strict room s ts rest → length rest < length ts
step_is_one strict room _ _ _ (join_found p x ts us rest s f) = omega (arith, ap length s.1, f.shorter)
step_is_one strict room _ _ _ (arguments_found p xs ts us vs rest s f c) = omega (arith, ap length s.1, ap length c.1, f.shorter)
