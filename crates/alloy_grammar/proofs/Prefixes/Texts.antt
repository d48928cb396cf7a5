-- Texts of nodes by the rules of the grammar, whatever their trees.
use Rattle.std.proofs.Common.{◌≡◌, ℕ, suc, ◌≤◌, inl, inr, Bool, true, false, IsTrue, List, [], ◌∷◌, Option, Some, None, refl, sym, subst, arith}
use Rattle.alloy_lex.specs.declared.token.Place.{Place}
use Rattle.alloy_syntax.specs.declared.class.Class.{Class}
use Rattle.alloy_syntax.specs.declared.class.Class.TheVariants as class
use Rattle.alloy_syntax.specs.declared.tree.Name.{Name}
use Rattle.alloy_syntax.specs.declared.tree.MultiplicityWord.{MultiplicityWord}
use Rattle.alloy_syntax.specs.declared.tree.Multiplicity.{Multiplicity}
use Rattle.alloy_syntax.specs.declared.tree.Quantifier.{Quantifier}
use Rattle.alloy_syntax.specs.declared.tree.Constant.{Constant}
use Rattle.alloy_syntax.specs.declared.tree.Prefix.{Prefix}
use Rattle.alloy_syntax.specs.declared.tree.Operator.{Operator}
use Rattle.alloy_syntax.specs.declared.tree.Comparison.{Comparison}
use Rattle.alloy_syntax.specs.declared.tree.Comparison.TheVariants as comparison
use Rattle.alloy_syntax.specs.declared.tree.Comparing.{Comparing}
use Rattle.alloy_syntax.specs.declared.reading.Inside.{Inside}
use Rattle.alloy_syntax.specs.declared.reading.Inside.TheVariants as inside
use Rattle.alloy_syntax.specs.declared.parser_token.ParserToken.{ParserToken}
use Rattle.alloy_syntax.specs.Tree.{Tree, named, numbered, constant, bracketed, block, prefixed, chain, path, compared, implies, implies_else, quantified, bound_by_let, Trees, no_trees, more_trees, Links, no_links, more_links, Steps, no_steps, join_first, brackets_first, Declarations, no_declarations, more_declarations, Bindings, no_bindings, more_bindings}
use Rattle.alloy_syntax.specs.Readers.{value_from}
use Rattle.alloy_grammar.specs.Fronts.{Front, ◌before◌, nothing, unless_next, sign, mark_of, flag, spelled_as, name, mark, names, each, class_of_multiplicity}
use Rattle.alloy_grammar.specs.Levels.{implication_level, and_level, negation_level, comparison_level, counted_level, sum_level, path_level, tight_level, primary_level, level_of_operator, level_of_prefix, level_behind, level_of}
use Rattle.alloy_grammar.specs.Nodes.{class_of_constant, class_of_prefix, class_of_operator, class_of_quantifier, class_of_comparison, comparing, unless_operator, has_steps, has_declarations, has_bindings, body, comma, spells, spells_trees, spells_links, spells_steps, spells_declarations, spells_bindings}
use Rattle.alloy_grammar.proofs.Prefixes.CompletedReadings.{Then, Token, Maybe, none, some, Or, this, that, Many, no_more, one_more, Listed}

-- a node that binds at least so tightly
pub record Node (l : ℕ) (ts rest : List ParserToken) : Type 0 where
  pub tree : Tree
  pub level : l ≤ level_of tree
  pub spelled : spells tree ts rest

pub record Braces (ts rest : List ParserToken) : Type 0 where
  pub place : Place
  pub trees : Trees
  pub spelled : spells (block place trees) ts rest

pub lower : {k : ℕ} (l : ℕ) → l ≤ k → (ts rest : List ParserToken) → Node k ts rest → Node l ts rest
lower {k} l less ts rest x = record { tree = x.tree; level = omega (arith, less, x.level); spelled = x.spelled }

-- ---- tokens

pub as_mark : {c : Class} {ts rest : List ParserToken} → Token c ts rest → mark_of c ts rest
as_mark t = (t.token, t.are, t.is)

pub as_sign : {c : Class} {ts rest : List ParserToken} (t : Token c ts rest) → sign c t.token.place ts rest
as_sign t = (t.token, t.are, t.is, refl)

abbrev pub name_of : {c : Class} {ts rest : List ParserToken} → Token c ts rest → Name
name_of t = record { text = t.token.text; place = t.token.place }

pub as_name : {c : Class} {ts rest : List ParserToken} (t : Token c ts rest) → spelled_as c (name_of t) ts rest
as_name t = (t.token, t.are, t.is, refl, refl)

-- ---- primaries

pub named_text : (ts rest : List ParserToken) → Token class.Name ts rest → Node primary_level ts rest
unfolding spells
named_text ts rest t = record { tree = named (name_of t); level = omega arith; spelled = inl (as_name t) }

pub path_text : (ts rest : List ParserToken) → Token class.Path ts rest → Node primary_level ts rest
unfolding spells
path_text ts rest t = record { tree = named (name_of t); level = omega arith; spelled = inr (as_name t) }

pub number_text : (ts rest : List ParserToken) → Token class.Number ts rest → Node primary_level ts rest
unfolding spells
number_text ts rest t = record { tree = numbered (record { value = value_from 0 t.token.text; place = t.token.place }); level = omega arith; spelled = (t.token, t.are, t.is, refl, refl) }

pub constant_text : (c : Constant) (ts rest : List ParserToken) → Token (class_of_constant c) ts rest → Node primary_level ts rest
unfolding spells
constant_text c ts rest t = record { tree = constant c t.token.place; level = omega arith; spelled = as_sign t }

pub paren_text : (ts rest : List ParserToken) → Then (Token class.LeftParen) (Then (Node 0) (Token class.RightParen)) ts rest → Node primary_level ts rest
unfolding spells
paren_text ts rest t = record {
  tree = bracketed t.first.token.place t.second.first.tree;
  level = omega arith;
  spelled = (t.middle, as_sign t.first, (t.second.middle, t.second.first.spelled, as_mark t.second.second));
}

record Nodes (first next : Front) (ts rest : List ParserToken) : Type 0 where
  trees : Trees
  spelled : spells_trees first next trees ts rest

inner_nodes : (ts rest : List ParserToken) → Many (Node 0) ts rest → Nodes nothing nothing ts rest
unfolding spells_trees
inner_nodes ts rest (no_more e) = record { trees = no_trees; spelled = e }
inner_nodes ts rest (one_more us x xs) = let more = inner_nodes us rest xs in record { trees = more_trees x.tree more.trees; spelled = (ts, refl, (us, x.spelled, more.spelled)) }

other_nodes : (ts rest : List ParserToken) → Many (Then (Token class.Comma) (Node 0)) ts rest → Nodes comma comma ts rest
unfolding spells_trees
other_nodes ts rest (no_more e) = record { trees = no_trees; spelled = e }
other_nodes ts rest (one_more us x xs) =
    let more = other_nodes us rest xs in
    record { trees = more_trees x.second.tree more.trees; spelled = (x.middle, as_mark x.first, (us, x.second.spelled, more.spelled)) }

-- what stands in square brackets
abbrev pub Arguments : Front
Arguments = Maybe (Listed (Node 0))

argument_nodes : (ts rest : List ParserToken) → Arguments ts rest → Nodes nothing comma ts rest
unfolding spells_trees
argument_nodes ts rest (none e) = record { trees = no_trees; spelled = e }
argument_nodes ts rest (some l) =
    let more = other_nodes l.middle rest l.second in
    record { trees = more_trees l.first.tree more.trees; spelled = (ts, refl, (l.middle, l.first.spelled, more.spelled)) }

pub braces_text : (ts rest : List ParserToken) → Then (Token class.LeftBrace) (Then (Many (Node 0)) (Token class.RightBrace)) ts rest → Braces ts rest
unfolding spells
braces_text ts rest t =
    let xs = inner_nodes t.middle t.second.middle t.second.first in
    record { place = t.first.token.place; trees = xs.trees; spelled = (t.middle, as_sign t.first, (t.second.middle, xs.spelled, as_mark t.second.second)) }

pub block_text : (ts rest : List ParserToken) → Braces ts rest → Node primary_level ts rest
block_text ts rest b = record { tree = block b.place b.trees; level = omega arith; spelled = b.spelled }

-- ---- prefixes and paths

pub prefix_text : (f : Prefix) (ts rest : List ParserToken) → Then (Token (class_of_prefix f)) (Node (level_behind f)) ts rest → Node (level_of_prefix f) ts rest
unfolding spells
prefix_text f ts rest t = record { tree = prefixed f t.first.token.place t.second.tree; level = omega arith; spelled = (t.middle, as_sign t.first, (t.second.level, t.second.spelled)) }

abbrev pub Step : Front
Step = Or (Then (Token class.Dot) (Node tight_level)) (Then (Token class.LeftBracket) (Then Arguments (Token class.RightBracket)))

record Stepped (ts rest : List ParserToken) : Type 0 where
  steps : Steps
  spelled : spells_steps steps ts rest

one_step : (ts us rest : List ParserToken) → Step ts us → (more : Stepped us rest) → (s : Stepped ts rest) × IsTrue (has_steps s.steps)
unfolding spells_steps
one_step ts us rest (this j) more = (record { steps = join_first j.first.token.place j.second.tree more.steps; spelled = (j.middle, as_sign j.first, (us, (j.second.level, j.second.spelled), more.spelled)) }, refl)
one_step ts us rest (that b) more =
    let xs = argument_nodes b.middle b.second.middle b.second.first in
    (record { steps = brackets_first b.first.token.place xs.trees more.steps; spelled = (b.middle, as_sign b.first, (b.second.middle, xs.spelled, (us, as_mark b.second.second, more.spelled))) }, refl)

all_steps : (ts rest : List ParserToken) → Many Step ts rest → Stepped ts rest
unfolding spells_steps
all_steps ts rest (no_more e) = record { steps = no_steps; spelled = e }
all_steps ts rest (one_more us s ss) = (one_step ts us rest s (all_steps us rest ss)).0

steps_text : (x : Tree) (ts us rest : List ParserToken) → tight_level ≤ level_of x → spells x ts us → Many Step us rest → Node path_level ts rest
unfolding spells
steps_text x ts us rest level spelled (no_more e) = record { tree = x; level = omega (arith, level); spelled = subst (λ vs. spells x ts vs) e spelled }
steps_text x ts us rest level spelled (one_more vs s ss) =
    let more = one_step us vs rest s (all_steps vs rest ss) in
    record { tree = path x more.0.steps; level = omega arith; spelled = (more.1, (us, (level, spelled), more.0.spelled)) }

pub steps_node : (ts rest : List ParserToken) → Then (Node tight_level) (Many Step) ts rest → Node path_level ts rest
steps_node ts rest t = steps_text t.first.tree ts t.middle rest t.first.level t.first.spelled t.second

-- ---- chains

-- an operator of that level, and its operand
pub record Link (l : ℕ) (ts rest : List ParserToken) : Type 0 where
  pub operator : Operator
  pub level : level_of_operator operator ≡ l
  pub spelled : Then (Token (class_of_operator operator)) (Node (suc l)) ts rest

pub link_text : (l : ℕ) (o : Operator) → level_of_operator o ≡ l → (ts rest : List ParserToken) → Then (Token (class_of_operator o)) (Node (suc l)) ts rest → Link l ts rest
link_text l o level ts rest t = record { operator = o; level = level; spelled = t }

record Linked (l : ℕ) (ts rest : List ParserToken) : Type 0 where
  links : Links
  spelled : spells_links l links ts rest

all_links : (l : ℕ) (ts rest : List ParserToken) → Many (Link l) ts rest → Linked l ts rest
unfolding spells_links
all_links l ts rest (no_more e) = record { links = no_links; spelled = e }
all_links l ts rest (one_more us k ks) =
    let more = all_links l us rest ks in
    let t = k.spelled in
    record { links = more_links k.operator t.first.token.place t.second.tree more.links; spelled = (t.middle, (k.level, as_sign t.first), (us, (t.second.level, t.second.spelled), more.spelled)) }

links_text : (l : ℕ) (x : Tree) (ts us rest : List ParserToken) → suc l ≤ level_of x → spells x ts us → Many (Link l) us rest → Node l ts rest
unfolding spells spells_links
links_text l x ts us rest level spelled (no_more e) = record { tree = x; level = omega (arith, level); spelled = subst (λ vs. spells x ts vs) e spelled }
links_text l x ts us rest level spelled (one_more vs k ks) =
    let more = all_links l vs rest ks in
    let t = k.spelled in
    let links = more_links k.operator t.first.token.place t.second.tree more.links in
    let s : spells_links l links us rest = (t.middle, (k.level, as_sign t.first), (vs, (t.second.level, t.second.spelled), more.spelled)) in
    record { tree = chain x links; level = omega (arith, k.level); spelled = (refl, (us, (omega (arith, level, k.level), spelled), subst (λ m. spells_links m links us rest) (sym k.level) s)) }

pub chain_text : (l : ℕ) (ts rest : List ParserToken) → Then (Node (suc l)) (Many (Link l)) ts rest → Node l ts rest
chain_text l ts rest t = links_text l t.first.tree ts t.middle rest t.first.level t.first.spelled t.second

-- ---- comparisons

-- a comparison, which may be negated
pub data Compare (ts rest : List ParserToken) : Type 0 where
  plain : (c : Comparison) → Token (class_of_comparison c) ts rest → Compare ts rest
  unequal : Token class.NotEqual ts rest → Compare ts rest
  negated : Then (Token class.Not) (Or (Token class.In) (Token class.Equal)) ts rest → Compare ts rest

record Compares (ts rest : List ParserToken) : Type 0 where
  word : Comparing
  spelled : comparing word ts rest

negated_is : (ts us rest : List ParserToken) → Token class.Not ts us → Or (Token class.In) (Token class.Equal) us rest → Compares ts rest
negated_is ts us rest t (this i) = record { word = record { comparison = comparison.In; negated = true; place = t.token.place }; spelled = (us, as_sign t, as_mark i) }
negated_is ts us rest t (that e) = record { word = record { comparison = comparison.Equal; negated = true; place = t.token.place }; spelled = inl (us, as_sign t, as_mark e) }

compare_is : (ts rest : List ParserToken) → Compare ts rest → Compares ts rest
compare_is ts rest (plain c t) = record { word = record { comparison = c; negated = false; place = t.token.place }; spelled = as_sign t }
compare_is ts rest (unequal t) = record { word = record { comparison = comparison.Equal; negated = true; place = t.token.place }; spelled = inr (as_sign t) }
compare_is ts rest (negated t) = negated_is ts t.middle rest t.first t.second

compared_text : (x : Tree) (ts us rest : List ParserToken) → counted_level ≤ level_of x → spells x ts us → Maybe (Then Compare (Node counted_level)) us rest → Node comparison_level ts rest
unfolding spells
compared_text x ts us rest level spelled (none e) = record { tree = x; level = omega (arith, level); spelled = subst (λ vs. spells x ts vs) e spelled }
compared_text x ts us rest level spelled (some t) =
    let c = compare_is us t.middle t.first in
    record { tree = compared x c.word t.second.tree; level = omega arith; spelled = (us, (level, spelled), (t.middle, c.spelled, (t.second.level, t.second.spelled))) }

pub comparison_text : (ts rest : List ParserToken) → Then (Node counted_level) (Maybe (Then Compare (Node counted_level))) ts rest → Node comparison_level ts rest
comparison_text ts rest t = compared_text t.first.tree ts t.middle rest t.first.level t.first.spelled t.second

-- ---- implications

-- an `else`, which doesn't follow where it isn't taken
abbrev pub Otherwise : Front
Otherwise = Or (unless_next class.Else) (Then (Token class.Else) (Node implication_level))

abbrev pub Implied : Front
Implied = Then (Token class.Implies) (Then (Node implication_level) Otherwise)

otherwise_text : (x y : Tree) (ts us vs ws rest : List ParserToken) → and_level ≤ level_of x → spells x ts us → Token class.Implies us vs → implication_level ≤ level_of y → spells y vs ws → Otherwise ws rest → Node implication_level ts rest
unfolding spells
otherwise_text x y ts us vs ws rest l s t m r (this n) = record { tree = implies x t.token.place y; level = omega arith; spelled = (us, (l, s), (vs, as_sign t, (ws, (m, r), n))) }
otherwise_text x y ts us vs ws rest l s t m r (that o) =
    record { tree = implies_else x t.token.place y o.second.tree; level = omega arith; spelled = (us, (l, s), (vs, as_sign t, (ws, (m, r), (o.middle, as_mark o.first, (o.second.level, o.second.spelled))))) }

implied_text : (x : Tree) (ts us rest : List ParserToken) → and_level ≤ level_of x → spells x ts us → Maybe Implied us rest → Node implication_level ts rest
implied_text x ts us rest level spelled (none e) = record { tree = x; level = omega (arith, level); spelled = subst (λ vs. spells x ts vs) e spelled }
implied_text x ts us rest level spelled (some t) =
    otherwise_text x t.second.first.tree ts us t.middle t.second.middle rest level spelled t.first t.second.first.level t.second.first.spelled t.second.second

pub implication_text : (ts rest : List ParserToken) → Then (Node and_level) (Maybe Implied) ts rest → Node implication_level ts rest
implication_text ts rest t = implied_text t.first.tree ts t.middle rest t.first.level t.first.spelled t.second

-- ---- names and words

record Named (ts rest : List ParserToken) : Type 0 where
  list : List Name
  spelled : each (λ n. comma before name n) list ts rest

other_names : (ts rest : List ParserToken) → Many (Then (Token class.Comma) (Token class.Name)) ts rest → Named ts rest
other_names ts rest (no_more e) = record { list = []; spelled = e }
other_names ts rest (one_more us n ns) = let more = other_names us rest ns in record { list = name_of n.second ∷ more.list; spelled = (us, (n.middle, as_mark n.first, as_name n.second), more.spelled) }

pub record NamesText (ts rest : List ParserToken) : Type 0 where
  pub list : List Name
  pub spelled : names list ts rest

pub names_text : (ts rest : List ParserToken) → Listed (Token class.Name) ts rest → NamesText ts rest
names_text ts rest l = let more = other_names l.middle rest l.second in record { list = name_of l.first ∷ more.list; spelled = (l.middle, as_name l.first, more.spelled) }

pub record FlagText (c : Class) (ts rest : List ParserToken) : Type 0 where
  pub set : Bool
  pub spelled : flag c set ts rest

pub flag_text : (c : Class) (ts rest : List ParserToken) → Maybe (Token c) ts rest → FlagText c ts rest
flag_text c ts rest (none e) = record { set = false; spelled = e }
flag_text c ts rest (some t) = record { set = true; spelled = as_mark t }

-- a multiplicity word
pub record Word (ts rest : List ParserToken) : Type 0 where
  pub multiplicity : Multiplicity
  pub token : Token (class_of_multiplicity multiplicity) ts rest

pub record MarkText (ts rest : List ParserToken) : Type 0 where
  pub word : Option MultiplicityWord
  pub spelled : mark word ts rest

pub mark_text : (ts rest : List ParserToken) → Maybe Word ts rest → MarkText ts rest
mark_text ts rest (none e) = record { word = None; spelled = e }
mark_text ts rest (some w) = record { word = Some (record { multiplicity = w.multiplicity; place = w.token.token.place }); spelled = as_sign w.token }

-- ---- declarations, bindings and bodies

abbrev pub Names : Front
Names = Listed (Token class.Name)

-- names with their colon
abbrev pub Variables : Front
Variables = Then (Maybe (Token class.Disj)) (Then Names (Token class.Colon))

abbrev pub Domain : Front
Domain = Then (Maybe Word) (Node sum_level)

abbrev pub Declaration : Front
Declaration = Then Variables Domain

record Declared (first : Front) (ts rest : List ParserToken) : Type 0 where
  list : Declarations
  spelled : spells_declarations first list ts rest

one_declaration : (first : Front) (ts us vs rest : List ParserToken) → first ts us → Declaration us vs → Declared comma vs rest → (d : Declared first ts rest) × IsTrue (has_declarations d.list)
unfolding spells_declarations
one_declaration first ts us vs rest f d more =
    let v = d.first in
    let x = d.second in
    let word = flag_text class.Disj us v.middle v.first in
    let named = names_text v.middle v.second.middle v.second.first in
    let marked = mark_text d.middle x.middle x.first in (
      record {
        list = more_declarations word.set named.list marked.word x.second.tree more.list;
        spelled = (us, f, (v.middle, word.spelled, (v.second.middle, named.spelled, (d.middle, as_mark v.second.second, (x.middle, marked.spelled, (vs, (x.second.level, x.second.spelled), more.spelled))))));
      },
      refl,
    )

other_declarations : (ts rest : List ParserToken) → Many (Then (Token class.Comma) Declaration) ts rest → Declared comma ts rest
unfolding spells_declarations
other_declarations ts rest (no_more e) = record { list = no_declarations; spelled = e }
other_declarations ts rest (one_more us d ds) = (one_declaration comma ts d.middle us rest (as_mark d.first) d.second (other_declarations us rest ds)).0

pub record DeclaredText (ts rest : List ParserToken) : Type 0 where
  pub list : Declarations
  pub some : IsTrue (has_declarations list)
  pub spelled : spells_declarations nothing list ts rest

pub declarations_text : (ts rest : List ParserToken) → Listed Declaration ts rest → DeclaredText ts rest
declarations_text ts rest l = let d = one_declaration nothing ts ts l.middle rest refl l.first (other_declarations l.middle rest l.second) in record { list = d.0.list; some = d.1; spelled = d.0.spelled }

abbrev pub Binding : Front
Binding = Then (Token class.Name) (Then (Token class.Equal) (Node sum_level))

record Bound (first : Front) (ts rest : List ParserToken) : Type 0 where
  list : Bindings
  spelled : spells_bindings first list ts rest

one_binding : (first : Front) (ts us vs rest : List ParserToken) → first ts us → Binding us vs → Bound comma vs rest → (b : Bound first ts rest) × IsTrue (has_bindings b.list)
unfolding spells_bindings
one_binding first ts us vs rest f b more =
    let x = b.second.second in
    (record { list = more_bindings (name_of b.first) x.tree more.list; spelled = (us, f, (b.middle, as_name b.first, (b.second.middle, as_mark b.second.first, (vs, (x.level, x.spelled), more.spelled)))) }, refl)

other_bindings : (ts rest : List ParserToken) → Many (Then (Token class.Comma) Binding) ts rest → Bound comma ts rest
unfolding spells_bindings
other_bindings ts rest (no_more e) = record { list = no_bindings; spelled = e }
other_bindings ts rest (one_more us b bs) = (one_binding comma ts b.middle us rest (as_mark b.first) b.second (other_bindings us rest bs)).0

abbrev pub Body : Front
Body = Or (Then (Token class.Bar) (Then (Node 0) unless_operator)) Braces

record BodyText (ts rest : List ParserToken) : Type 0 where
  tree : Tree
  spelled : body tree (spells tree) ts rest

body_text : (ts rest : List ParserToken) → Body ts rest → BodyText ts rest
body_text ts rest (this b) = record { tree = b.second.first.tree; spelled = inl (b.middle, as_mark b.first, (b.second.middle, b.second.first.spelled, b.second.second)) }
body_text ts rest (that b) = record { tree = block b.place b.trees; spelled = inr (refl, b.spelled) }

-- what stands behind a quantifier, and behind `let`
abbrev pub Quantified : Front
Quantified = Then (Listed Declaration) Body

abbrev pub Let : Front
Let = Then (Listed Binding) Body

pub quantified_text : (q : Quantifier) (ts rest : List ParserToken) → Then (Token (class_of_quantifier q)) Quantified ts rest → Node negation_level ts rest
unfolding spells
quantified_text q ts rest t =
    let ds = declarations_text t.middle t.second.middle t.second.first in
    let b = body_text t.second.middle rest t.second.second in
    record { tree = quantified q t.first.token.place ds.list b.tree; level = omega arith; spelled = (t.middle, as_sign t.first, (t.second.middle, (ds.some, ds.spelled), b.spelled)) }

pub let_text : (ts rest : List ParserToken) → Then (Token class.Let) Let ts rest → Node negation_level ts rest
unfolding spells
let_text ts rest t =
    let l = t.second.first in
    let bs = one_binding nothing t.middle t.middle l.middle t.second.middle refl l.first (other_bindings l.middle t.second.middle l.second) in
    let b = body_text t.second.middle rest t.second.second in
    record { tree = bound_by_let t.first.token.place bs.0.list b.tree; level = omega arith; spelled = (t.middle, as_sign t.first, (t.second.middle, (bs.1, bs.0.spelled), b.spelled)) }

-- the texts of parts under one construct more
abbrev pub Part : Inside → Front
Part inside.Node = Node 0
Part inside.Negation = Node negation_level
Part inside.Implied = Node implication_level
Part inside.Sum = Node sum_level
Part inside.Size = Node 8
Part inside.Tight = Node tight_level
Part (inside.Quantified q p) = Quantified
Part (inside.Let p) = Let
