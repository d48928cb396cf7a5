-- What spells a node is read as it, where what stands behind ends it, and constructs nest within the limit.
use Rattle.std.proofs.Common.{◌≡◌, ℕ, suc, ◌≤◌, Bool, true, false, ◌||◌, ◌&&◌, IsTrue, List, [], ◌∷◌, length, Option, Some, None, Ok, refl, sym, ap, subst, ◌∙◌, arith}
use Rattle.alloy_lex.specs.declared.token.Place.{Place}
use Rattle.alloy_syntax.specs.declared.class.Class.TheVariants as class
use Rattle.alloy_syntax.specs.declared.reading.Around.{Around}
use Rattle.alloy_syntax.specs.declared.reading.Around.TheVariants as around
use Rattle.alloy_syntax.specs.declared.reading.Inside.TheVariants as inside
use Rattle.alloy_syntax.specs.declared.tree.Name.{Name}
use Rattle.alloy_syntax.specs.declared.tree.MultiplicityWord.{MultiplicityWord}
use Rattle.alloy_syntax.specs.declared.tree.Multiplicity.{Multiplicity}
use Rattle.alloy_syntax.specs.declared.tree.Multiplicity.TheVariants as multiplicity
use Rattle.alloy_syntax.specs.declared.tree.Quantifier.{Quantifier}
use Rattle.alloy_syntax.specs.declared.tree.Quantifier.TheVariants as quantifier
use Rattle.alloy_syntax.specs.declared.tree.Prefix.{Prefix}
use Rattle.alloy_syntax.specs.declared.tree.Prefix.TheVariants as prefix
use Rattle.alloy_syntax.specs.declared.parser_token.ParserToken.{ParserToken}
use Rattle.alloy_syntax.specs.Class.{is_class}
use Rattle.alloy_syntax.specs.Tree.{Tree, block, path, implies, implies_else, quantified, bound_by_let, Trees, Steps, joined, in_brackets, Declarations, no_declarations, more_declarations, DeclarationTree, BindingTree, declarations_of, bindings_of}
use Rattle.alloy_syntax.specs.Readers.{next_is, after, name_at, is_mark, mark_at, after_mark, multiplicity_of, many, behind, others, listed, names_at, colon_after_names}
use Rattle.alloy_syntax.specs.Nodes.{Reader, is_inner, is_comprehension, block_over, block_tree, primary_over, tight_over, arguments_over, brackets_over, begins_step, step_over, path_over, is_counting, begins_declaration, in_brackets_too, quantifier_of, is_single, one_name, are_several, variable_names, variables_over, declaration_over, another_declaration, more_declarations as more_declarations_over, declarations_over, body_over, quantified_over, binding_over, bindings_over, let_over, negation_over, and_over, implied_over, implication_over, sum_over, node_over, inside_over, within}
use Rattle.alloy_grammar.specs.Fronts.{nothing, sign, mark_of, flag, name, mark, names, each, class_of_multiplicity}
use Rattle.alloy_grammar.specs.Levels.{level_of_prefix, level_behind, level_of}
use Rattle.alloy_grammar.specs.Nodes.{class_of_quantifier, spells, spells_trees, spells_declarations, is_block, has_declarations}
use Rattle.alloy_grammar.proofs.Results.{true_not_false}
use Rattle.alloy_grammar.proofs.Tokens.{marks}
use Rattle.alloy_grammar.proofs.FirstTokens.{rank, First, looser, never_first, too_loose}
use Rattle.alloy_grammar.proofs.TextEnds.{same_class, is_next, after_is, differs}
use Rattle.alloy_grammar.proofs.NodesReadBack.{mark_full, expect_full, spelled_full, place_is, Goes, many_full, reader, brace_is_block, part_of}
use Rattle.alloy_grammar.proofs.Spelled.{list_of, trees_of_list, list_of_steps, steps_of_list, and_false, block_has_no_names}

-- ---- blocks

-- the first token of a tree is no closing one
pub inner_first : (l : ℕ) (ts : List ParserToken) → First l ts → is_inner ts ≡ true
unfolding is_inner rank
inner_first l ts f = rw (never_first class.RightBrace refl l ts f) refl

not_inner : (ts rest : List ParserToken) → mark_of class.RightBrace ts rest → is_inner ts ≡ false
unfolding is_inner
not_inner ts rest m = rw (is_next class.RightBrace ts rest m) refl

pub block_full : (i : Reader) (p : Place) (xs : Trees) (ts us vs rest : List ParserToken) → sign class.LeftBrace p ts us → spells_trees nothing nothing xs us vs → mark_of class.RightBrace vs rest → each (Goes is_inner (i around.Braces inside.Node)) (list_of xs) us vs
    → block_over i ts ≡ Ok (record { place = p; formulas = list_of xs }, rest)
unfolding block_over is_comprehension
block_full i p xs ts us vs rest s sp c all =
    let m = marks class.LeftBrace p ts us s in
    let none : (next_is class.LeftBrace ts && colon_after_names (after ts)) ≡ false = and_false (next_is class.LeftBrace ts) (colon_after_names (after ts)) (subst (λ ws. colon_after_names ws ≡ false) (sym (after_is class.LeftBrace ts us m)) (block_has_no_names xs us vs rest sp c)) in
    let inner = many_full is_inner (i around.Braces inside.Node) (list_of xs) us vs all (not_inner vs rest c) in
    rw (none, expect_full class.LeftBrace p ts us s, inner, mark_full class.RightBrace vs rest c) refl

pub block_tree_full : (i : Reader) (p : Place) (xs : Trees) (ts rest : List ParserToken) → block_over i ts ≡ Ok (record { place = p; formulas = list_of xs }, rest) → block_tree i ts ≡ Ok (block p xs, rest)
unfolding block_tree
block_tree_full i p xs ts rest e = rw (e, trees_of_list xs) refl

-- ---- prefixes

pub prefix_tighter : (f : Prefix) → level_of_prefix f ≤ level_behind f
prefix_tighter prefix.Not = omega arith
prefix_tighter prefix.No = omega arith
prefix_tighter prefix.Some = omega arith
prefix_tighter prefix.Lone = omega arith
prefix_tighter prefix.One = omega arith
prefix_tighter prefix.Size = omega arith
prefix_tighter prefix.Transpose = omega arith
prefix_tighter prefix.Closure = omega arith
prefix_tighter prefix.ReflexiveClosure = omega arith

pub part_is : (strict : Bool) (room : ℕ) (a : Around) (f : Prefix) (ts : List ParserToken) → within strict (suc room) a (part_of f) ts ≡ reader (within strict room) a (level_behind f) ts
unfolding within inside_over part_of
part_is strict room a prefix.Not ts = refl
part_is strict room a prefix.No ts = refl
part_is strict room a prefix.Some ts = refl
part_is strict room a prefix.Lone ts = refl
part_is strict room a prefix.One ts = refl
part_is strict room a prefix.Size ts = refl
part_is strict room a prefix.Transpose ts = refl
part_is strict room a prefix.Closure ts = refl
part_is strict room a prefix.ReflexiveClosure ts = refl

-- ---- implications

pub implies_full : (i : Reader) (a : Around) (x : Tree) (p : Place) (y : Tree) (ts us vs rest : List ParserToken) → and_over i a ts ≡ Ok (x, us) → sign class.Implies p us vs → i a inside.Implied vs ≡ Ok (y, rest) → next_is class.Else rest ≡ false
    → implication_over i a ts ≡ Ok (implies x p y, rest)
unfolding implication_over implied_over
implies_full i a x p y ts us vs rest e s f none =
    let m = marks class.Implies p us vs s in
    rw (e, is_next class.Implies us vs m, after_is class.Implies us vs m, f, none, place_is class.Implies p us vs s) refl

pub implies_else_full : (i : Reader) (a : Around) (x : Tree) (p : Place) (y z : Tree) (ts us vs ws os rest : List ParserToken) → and_over i a ts ≡ Ok (x, us) → sign class.Implies p us vs → i a inside.Implied vs ≡ Ok (y, ws) → mark_of class.Else ws os → i a inside.Implied os ≡ Ok (z, rest)
    → implication_over i a ts ≡ Ok (implies_else x p y z, rest)
unfolding implication_over implied_over
implies_else_full i a x p y z ts us vs ws os rest e s f o g =
    let m = marks class.Implies p us vs s in
    rw (e, is_next class.Implies us vs m, after_is class.Implies us vs m, f, is_next class.Else ws os o, after_is class.Else ws os o, g, place_is class.Implies p us vs s) refl

-- ---- paths

pub path_full : (i : Reader) (a : Around) (x : Tree) (ss : Steps) (ts us rest : List ParserToken) → tight_over i a ts ≡ Ok (x, us) → begins_step us ≡ true → many begins_step (step_over i a) us ≡ Ok (list_of_steps ss, rest) → path_over i a ts ≡ Ok (path x ss, rest)
unfolding path_over
path_full i a x ss ts us rest e goes more = rw (e, goes, more, steps_of_list ss) refl

pub join_full : (i : Reader) (a : Around) (p : Place) (y : Tree) (ts us rest : List ParserToken) → sign class.Dot p ts us → tight_over i a us ≡ Ok (y, rest) → (begins_step ts ≡ true) × (step_over i a ts ≡ Ok (joined p y, rest))
unfolding step_over begins_step
join_full i a p y ts us rest s e =
    let m = marks class.Dot p ts us s in
    (rw (is_next class.Dot ts us m) refl, rw (is_next class.Dot ts us m, after_is class.Dot ts us m, e, place_is class.Dot p ts us s) refl)

pub brackets_full : (i : Reader) (a : Around) (p : Place) (ys : List Tree) (ts us vs rest : List ParserToken) → sign class.LeftBracket p ts us → arguments_over i us ≡ Ok (ys, vs) → mark_of class.RightBracket vs rest → (begins_step ts ≡ true) × (step_over i a ts ≡ Ok (in_brackets p ys, rest))
unfolding step_over begins_step brackets_over is_class
brackets_full i a p ys ts us vs rest s e c =
    let m = marks class.LeftBracket p ts us s in
    let none = differs class.LeftBracket class.Dot ts us m refl in
    (rw (none, is_next class.LeftBracket ts us m) refl, rw (none, expect_full class.LeftBracket p ts us s, e, mark_full class.RightBracket vs rest c) refl)

pub no_arguments : (i : Reader) (ts rest : List ParserToken) → mark_of class.RightBracket ts rest → arguments_over i ts ≡ Ok ([], ts)
unfolding arguments_over
no_arguments i ts rest m = rw (is_next class.RightBracket ts rest m) refl

pub some_arguments : (i : Reader) (y : Tree) (ys : List Tree) (l : ℕ) (ts us rest : List ParserToken) → First l ts → i around.Brackets inside.Node ts ≡ Ok (y, us) → many (next_is class.Comma) (behind (i around.Brackets inside.Node)) us ≡ Ok (ys, rest) → arguments_over i ts ≡ Ok (y ∷ ys, rest)
unfolding arguments_over listed others rank
some_arguments i y ys l ts us rest f e more = rw (never_first class.RightBracket refl l ts f, e, more) refl

-- ---- quantifiers

pub quantifier_full : (i : Reader) (a : Around) (q : Quantifier) (p : Place) (x : Tree) (ts us rest : List ParserToken) → sign (class_of_quantifier q) p ts us → begins_declaration a us ≡ true → i a (inside.Quantified q p) us ≡ Ok (x, rest) → negation_over i a ts ≡ Ok (x, rest)
unfolding negation_over is_counting quantifier_of is_class
quantifier_full i a quantifier.All p x ts us rest s d e =
    let m = marks class.All p ts us s in
    rw (differs class.All class.Not ts us m refl, is_next class.All ts us m, place_is class.All p ts us s, after_is class.All ts us m) e
quantifier_full i a quantifier.Some p x ts us rest s d e =
    let m = marks class.Some p ts us s in
    rw (differs class.Some class.Not ts us m refl, differs class.Some class.All ts us m refl, differs class.Some class.Let ts us m refl, is_next class.Some ts us m, place_is class.Some p ts us s, after_is class.Some ts us m, d) e
quantifier_full i a quantifier.No p x ts us rest s d e =
    let m = marks class.No p ts us s in
    rw (differs class.No class.Not ts us m refl, differs class.No class.All ts us m refl, differs class.No class.Let ts us m refl, differs class.No class.Some ts us m refl, is_next class.No ts us m, place_is class.No p ts us s, after_is class.No ts us m, d) e
quantifier_full i a quantifier.Lone p x ts us rest s d e =
    let m = marks class.Lone p ts us s in
    rw (differs class.Lone class.Not ts us m refl, differs class.Lone class.All ts us m refl, differs class.Lone class.Let ts us m refl, differs class.Lone class.Some ts us m refl, differs class.Lone class.No ts us m refl, is_next class.Lone ts us m, place_is class.Lone p ts us s, after_is class.Lone ts us m, d) e
quantifier_full i a quantifier.One p x ts us rest s d e =
    let m = marks class.One p ts us s in
    rw (differs class.One class.Not ts us m refl, differs class.One class.All ts us m refl, differs class.One class.Let ts us m refl, differs class.One class.Some ts us m refl, differs class.One class.No ts us m refl, differs class.One class.Lone ts us m refl, is_next class.One ts us m, place_is class.One p ts us s, after_is class.One ts us m, d) e

pub let_word_full : (i : Reader) (a : Around) (p : Place) (x : Tree) (ts us rest : List ParserToken) → sign class.Let p ts us → i a (inside.Let p) us ≡ Ok (x, rest) → negation_over i a ts ≡ Ok (x, rest)
unfolding negation_over is_class
let_word_full i a p x ts us rest s e =
    let m = marks class.Let p ts us s in
    rw (differs class.Let class.Not ts us m refl, differs class.Let class.All ts us m refl, is_next class.Let ts us m, place_is class.Let p ts us s, after_is class.Let ts us m) e

class_name : (t : ParserToken) → t.class ≡ class.Name → is_class t.class class.Name ≡ true
class_name t e = subst (λ k. is_class k class.Name ≡ true) (sym e) (same_class class.Name)

class_colon : (t : ParserToken) → t.class ≡ class.Colon → is_class t.class class.Colon ≡ true
class_colon t e = subst (λ k. is_class k class.Colon ≡ true) (sym e) (same_class class.Colon)

class_comma : (t : ParserToken) → t.class ≡ class.Comma → is_class t.class class.Comma ≡ true
class_comma t e = subst (λ k. is_class k class.Comma ≡ true) (sym e) (same_class class.Comma)

pub or_true : (a : Bool) → (a || true) ≡ true
or_true true = refl
or_true false = refl

-- names with commas, and a colon behind them
each_name : (ns : List Name) (ts rest : List ParserToken) → each (λ n. λ us vs. (ws : List ParserToken) × mark_of class.Comma us ws × name n ws vs) ns ts rest → each (Goes (next_is class.Comma) (behind name_at)) ns ts rest
each_name [] ts rest p = p
each_name (n ∷ ns) ts rest p =
    let k = p.1 in
    let named_there = spelled_full class.Name n k.0 p.0 k.2 in
    let read : name_at (after ts) ≡ Ok (n, p.0) = subst (λ us. name_at us ≡ Ok (n, p.0)) (sym (after_is class.Comma ts k.0 k.1)) named_there in
    (p.0, (is_next class.Comma ts k.0 k.1, read, omega (arith, ap length k.1.1, ap length k.2.1)), each_name ns p.0 rest p.2)

pub names_full : (ns : List Name) (ts rest : List ParserToken) → names ns ts rest → next_is class.Comma rest ≡ false → names_at ts ≡ Ok (ns, rest)
unfolding names_at listed others
names_full [] ts rest s none = absurd s
names_full (n ∷ ns) ts rest s none = rw (spelled_full class.Name n ts s.0 s.1, many_full (next_is class.Comma) (behind name_at) ns s.0 rest (each_name ns s.0 rest s.2) none) refl

colon_behind : (ns : List Name) (n : Name) (ts us rest vs : List ParserToken) → name n ts us → each (λ m. λ ws os. (ps : List ParserToken) × mark_of class.Comma ws ps × name m ps os) ns us rest → mark_of class.Colon rest vs → colon_after_names ts ≡ true
unfolding colon_after_names
colon_behind [] n ts us rest vs s p m =
    let here : ts ≡ s.0 ∷ m.0 ∷ vs = s.1 ∙ ap (λ ws. s.0 ∷ ws) (p ∙ m.1) in
    subst (λ ws. colon_after_names ws ≡ true) (sym here) (rw (class_name s.0 s.2, class_colon m.0 m.2) refl)
colon_behind (k ∷ ns) n ts us rest vs s p m =
    let c = p.1.1 in
    let here : ts ≡ s.0 ∷ c.0 ∷ p.1.0 = s.1 ∙ ap (λ ws. s.0 ∷ ws) c.1 in
    let more = colon_behind ns k p.1.0 p.0 rest vs p.1.2 p.2 m in
    subst (λ ws. colon_after_names ws ≡ true) (sym here) (rw (class_name s.0 s.2, class_comma c.0 c.2, more) (or_true (is_class c.0.class class.Colon)))

names_begin : (a : Around) (ns : List Name) (ts rest vs : List ParserToken) → names ns ts rest → mark_of class.Colon rest vs → begins_declaration a ts ≡ true
unfolding begins_declaration in_brackets_too is_class
names_begin a [] ts rest vs s m = absurd s
names_begin around.Brackets (n ∷ ns) ts rest vs s m = rw (colon_behind ns n ts s.0 rest vs s.1 s.2 m) (or_true (next_is class.Disj ts))
names_begin around.Braces (n ∷ []) ts rest vs s m =
    let t = after_is class.Name ts s.0 (s.1.0, s.1.1, s.1.2) ∙ s.2 in
    rw (differs class.Name class.Disj ts s.0 (s.1.0, s.1.1, s.1.2) refl, is_next class.Name ts s.0 (s.1.0, s.1.1, s.1.2), t, is_next class.Colon rest vs m) (or_true (next_is class.Comma rest))
names_begin around.Braces (n ∷ k ∷ ns) ts rest vs s m =
    rw (differs class.Name class.Disj ts s.0 (s.1.0, s.1.1, s.1.2) refl, is_next class.Name ts s.0 (s.1.0, s.1.1, s.1.2), after_is class.Name ts s.0 (s.1.0, s.1.1, s.1.2), is_next class.Comma s.0 s.2.1.0 s.2.1.1) refl
names_begin around.Parens (n ∷ []) ts rest vs s m =
    let t = after_is class.Name ts s.0 (s.1.0, s.1.1, s.1.2) ∙ s.2 in
    rw (differs class.Name class.Disj ts s.0 (s.1.0, s.1.1, s.1.2) refl, is_next class.Name ts s.0 (s.1.0, s.1.1, s.1.2), t, is_next class.Colon rest vs m) (or_true (next_is class.Comma rest))
names_begin around.Parens (n ∷ k ∷ ns) ts rest vs s m =
    rw (differs class.Name class.Disj ts s.0 (s.1.0, s.1.1, s.1.2) refl, is_next class.Name ts s.0 (s.1.0, s.1.1, s.1.2), after_is class.Name ts s.0 (s.1.0, s.1.1, s.1.2), is_next class.Comma s.0 s.2.1.0 s.2.1.1) refl

pub declarations_begin : (a : Around) (ds : Declarations) (ts rest : List ParserToken) → IsTrue (has_declarations ds) → spells_declarations nothing ds ts rest → begins_declaration a ts ≡ true
unfolding spells_declarations begins_declaration
declarations_begin a no_declarations ts rest is s = true_not_false (sym is)
declarations_begin a (more_declarations true ns m x ds) ts rest is s = subst (λ us. begins_declaration a us ≡ true) (sym s.1) (rw (is_next class.Disj s.0 s.2.0 s.2.1) refl)
declarations_begin a (more_declarations false ns m x ds) ts rest is s =
    subst (λ us. begins_declaration a us ≡ true) (sym (s.1 ∙ s.2.1)) (names_begin a ns s.2.0 s.2.2.0 s.2.2.2.0 s.2.2.1 s.2.2.2.1)

-- ---- variables

few_only : (single several : Bool) → (single ≡ true → several ≡ false) → (single && several) ≡ false
few_only true several few = few refl
few_only false several few = refl

one_full : (n : Name) (ts us vs rest : List ParserToken) → name n ts us → us ≡ vs → mark_of class.Colon vs rest → one_name ts ≡ Ok (n ∷ [], vs)
unfolding one_name is_class
one_full n ts us vs rest s same m =
    let here : name n ts vs = subst (λ ws. name n ts ws) same s in
    rw (spelled_full class.Name n ts vs here, differs class.Colon class.Comma vs rest m refl) refl

variables_full : (single d : Bool) (ns : List Name) (ts us vs rest : List ParserToken) → flag class.Disj d ts us → names ns us vs → mark_of class.Colon vs rest → (single ≡ true → are_several ns ≡ false)
    → (variables_over single ts ≡ Ok (ns, rest)) × (next_is class.Disj ts ≡ d)
unfolding variables_over variable_names is_class
variables_full single d [] ts us vs rest f s m few = absurd s
variables_full single false (n ∷ ns) ts us vs rest f s m few =
    let there : name n ts s.0 = subst (λ ws. name n ws s.0) (sym f) s.1 in
    let none = differs class.Name class.Disj ts s.0 (there.0, there.1, there.2) refl in
    let read : names_at ts ≡ Ok (n ∷ ns, vs) = names_full (n ∷ ns) ts vs (subst (λ ws. names (n ∷ ns) ws vs) (sym f) s) (differs class.Colon class.Comma vs rest m refl) in
    let alone : (single && are_several (n ∷ ns)) ≡ false = few_only single (are_several (n ∷ ns)) few in
    (rw (none, and_false single false refl, read, mark_full class.Colon vs rest m, alone) refl, none)
variables_full true true (n ∷ []) ts us vs rest f s m few =
    let is = is_next class.Disj ts us f in
    let same = after_is class.Disj ts us f in
    let one : one_name us ≡ Ok (n ∷ [], vs) = one_full n us s.0 vs rest s.1 s.2 m in
    (rw (is, same, one, mark_full class.Colon vs rest m) refl, is)
variables_full true true (n ∷ k ∷ ns) ts us vs rest f s m few = true_not_false (few refl)
variables_full false true (n ∷ ns) ts us vs rest f s m few =
    let is = is_next class.Disj ts us f in
    let same = after_is class.Disj ts us f in
    let read : names_at us ≡ Ok (n ∷ ns, vs) = names_full (n ∷ ns) us vs s (differs class.Colon class.Comma vs rest m refl) in
    (rw (is, same, read, mark_full class.Colon vs rest m) refl, is)

-- ---- multiplicity words

pub multiplicity_full : (w : Multiplicity) (ts rest : List ParserToken) → mark_of (class_of_multiplicity w) ts rest → (is_mark ts ≡ true) × (multiplicity_of ts ≡ w)
unfolding is_mark is_class
multiplicity_full multiplicity.Set ts rest m = let is = is_next class.Set ts rest m in (rw is refl, rw is refl)
multiplicity_full multiplicity.One ts rest m =
    let is = is_next class.One ts rest m in
    let e1 = differs class.One class.Set ts rest m refl in
    (rw (e1, is) refl, rw (e1, is) refl)
multiplicity_full multiplicity.Lone ts rest m =
    let is = is_next class.Lone ts rest m in
    let e1 = differs class.Lone class.Set ts rest m refl in
    let e2 = differs class.Lone class.One ts rest m refl in
    (rw (e1, e2, is) refl, rw (e1, e2, is) refl)
multiplicity_full multiplicity.Some ts rest m =
    let is = is_next class.Some ts rest m in
    let e1 = differs class.Some class.Set ts rest m refl in
    let e2 = differs class.Some class.One ts rest m refl in
    let e3 = differs class.Some class.Lone ts rest m refl in
    (rw (e1, e2, e3, is) refl, rw (e1, e2, e3) refl)

pub word_full : (m : Option MultiplicityWord) (ts rest : List ParserToken) → mark m ts rest → is_mark rest ≡ false → (mark_at ts ≡ m) × (after_mark ts ≡ rest)
unfolding mark_at after_mark
word_full None ts rest s none = let here : is_mark ts ≡ false = ap is_mark s ∙ none in (rw here refl, rw here s)
word_full (Some w) ts rest s none =
    let m : mark_of (class_of_multiplicity w.multiplicity) ts rest = (s.0, s.1, s.2) in
    let k = multiplicity_full w.multiplicity ts rest m in
    (rw (k.0, k.1, place_is (class_of_multiplicity w.multiplicity) w.place ts rest s) refl, rw k.0 (after_is (class_of_multiplicity w.multiplicity) ts rest m))

pub no_word : (l : ℕ) (ts : List ParserToken) → 7 ≤ l → First l ts → is_mark ts ≡ false
unfolding is_mark rank
no_word l ts h f =
    let g = looser 7 h f in
    rw (never_first class.Set refl 7 ts g, too_loose class.One 7 (omega arith) ts g, too_loose class.Lone 7 (omega arith) ts g, too_loose class.Some 7 (omega arith) ts g) refl

-- ---- declarations

pub declaration_full : (i : Reader) (single : Bool) (d : Bool) (ns : List Name) (m : Option MultiplicityWord) (x : Tree) (ts us vs ws os rest : List ParserToken) → flag class.Disj d ts us → names ns us vs → mark_of class.Colon vs ws → mark m ws os → First 7 os
    → (single ≡ true → are_several ns ≡ false) → sum_over i around.Parens os ≡ Ok (x, rest) → declaration_over i single ts ≡ Ok (record { disjoint = d; names = ns; mark = m; domain = x }, rest)
unfolding declaration_over
declaration_full i single d ns m x ts us vs ws os rest f s c w g few e =
    let v = variables_full single d ns ts us vs ws f s c few in
    let k = word_full m ws os w (no_word 7 os (omega arith) g) in
    rw (v.0, k.1, e, v.1, k.0) refl

pub another_full : (i : Reader) (d : Bool) (ns : List Name) (m : Option MultiplicityWord) (x : Tree) (ts us vs ws os ps rest : List ParserToken) → mark_of class.Comma ts us → flag class.Disj d us vs → names ns vs ws → mark_of class.Colon ws os → mark m os ps → First 7 ps
    → sum_over i around.Parens ps ≡ Ok (x, rest) → another_declaration i false ts ≡ Ok (record { disjoint = d; names = ns; mark = m; domain = x }, rest)
unfolding another_declaration
another_full i d ns m x ts us vs ws os ps rest o f s c w g e =
    rw (after_is class.Comma ts us o) (declaration_full i false d ns m x us vs ws os ps rest f s c w g (λ is. true_not_false (sym is)) e)

pub declarations_full : (i : Reader) (single : Bool) (first_one : DeclarationTree) (more : List DeclarationTree) (ts us rest : List ParserToken) → declaration_over i single ts ≡ Ok (first_one, us) → many (next_is class.Comma) (another_declaration i single) us ≡ Ok (more, rest)
    → declarations_over i single ts ≡ Ok (first_one ∷ more, rest)
unfolding declarations_over more_declarations_over
declarations_full i single first_one more ts us rest e f = rw (e, f) refl

pub body_bar_full : (i : Reader) (a : Around) (x : Tree) (ts us rest : List ParserToken) → mark_of class.Bar ts us → node_over i a us ≡ Ok (x, rest) → body_over i a ts ≡ Ok (x, rest)
unfolding body_over
body_bar_full i a x ts us rest m e = rw (is_next class.Bar ts us m, after_is class.Bar ts us m) e

pub body_block_full : (i : Reader) (a : Around) (x : Tree) (ts us rest : List ParserToken) → mark_of class.LeftBrace ts us → primary_over i ts ≡ Ok (x, rest) → body_over i a ts ≡ Ok (x, rest)
unfolding body_over is_class
body_block_full i a x ts us rest m e = rw (differs class.LeftBrace class.Bar ts us m refl) (sym (brace_is_block i ts us m) ∙ e)

pub block_begins : (x : Tree) (ts rest : List ParserToken) → IsTrue (is_block x) → spells x ts rest → (us : List ParserToken) × mark_of class.LeftBrace ts us
unfolding spells
block_begins (block p xs) ts rest is s = (s.0, marks class.LeftBrace p ts s.0 s.1)
block_begins _ ts rest is s = true_not_false (sym is)

pub block_level : (x : Tree) → IsTrue (is_block x) → 15 ≤ level_of x
block_level (block p xs) is = omega arith
block_level _ is = true_not_false (sym is)

pub quantified_full : (strict : Bool) (i : Reader) (a : Around) (q : Quantifier) (p : Place) (ds : List DeclarationTree) (x : Tree) (ts us rest : List ParserToken) → declarations_over i (strict && is_single q) ts ≡ Ok (ds, us) → body_over i a us ≡ Ok (x, rest)
    → quantified_over strict i a q p ts ≡ Ok (quantified q p (declarations_of ds) x, rest)
unfolding quantified_over
quantified_full strict i a q p ds x ts us rest e f = rw (e, f) refl

pub binding_full : (i : Reader) (n : Name) (x : Tree) (ts us vs rest : List ParserToken) → name n ts us → mark_of class.Equal us vs → sum_over i around.Parens vs ≡ Ok (x, rest) → binding_over i ts ≡ Ok (record { name = n; value = x }, rest)
unfolding binding_over
binding_full i n x ts us vs rest s m e = rw (spelled_full class.Name n ts us s, mark_full class.Equal us vs m, e) refl

pub let_full : (i : Reader) (a : Around) (p : Place) (b : BindingTree) (bs : List BindingTree) (x : Tree) (ts us vs rest : List ParserToken) → binding_over i ts ≡ Ok (b, us) → many (next_is class.Comma) (behind (binding_over i)) us ≡ Ok (bs, vs) → body_over i a vs ≡ Ok (x, rest)
    → let_over i a p ts ≡ Ok (bound_by_let p (bindings_of (b ∷ bs)) x, rest)
unfolding let_over bindings_over listed others
let_full i a p b bs x ts us vs rest e f g = rw (e, f, g) refl
