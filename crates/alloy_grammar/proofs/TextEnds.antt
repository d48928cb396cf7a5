-- What may stand behind a tree's text, and what stands behind its first token.
use Rattle.std.proofs.Common.{◌≡◌, ℕ, ◌≤◌, ◌<◌, ◌⊎◌, inl, inr, Bool, true, false, ◌||◌, ◌&&◌, IsTrue, List, [], ◌∷◌, refl, sym, ap, subst, ◌∙◌, arith}
use Rattle.alloy_lex.specs.declared.token.Place.{Place}
use Rattle.alloy_syntax.specs.declared.class.Class.{Class}
use Rattle.alloy_syntax.specs.declared.class.Class.TheVariants as class
use Rattle.alloy_syntax.specs.declared.reading.Around.{Around}
use Rattle.alloy_syntax.specs.declared.reading.Around.TheVariants as around
use Rattle.alloy_syntax.specs.declared.reading.Level.TheVariants as level
use Rattle.alloy_syntax.specs.declared.tree.Quantifier.{Quantifier}
use Rattle.alloy_syntax.specs.declared.tree.Quantifier.TheVariants as quantifier
use Rattle.alloy_syntax.specs.declared.tree.Constant.{Constant}
use Rattle.alloy_syntax.specs.declared.tree.Constant.TheVariants as constants
use Rattle.alloy_syntax.specs.declared.tree.Prefix.{Prefix}
use Rattle.alloy_syntax.specs.declared.tree.Prefix.TheVariants as prefix
use Rattle.alloy_syntax.specs.declared.tree.Operator.{Operator}
use Rattle.alloy_syntax.specs.declared.tree.Operator.TheVariants as operator
use Rattle.alloy_syntax.specs.declared.tree.Comparison.TheVariants as comparison
use Rattle.alloy_syntax.specs.declared.tree.Comparison.{Comparison}
use Rattle.alloy_syntax.specs.declared.parser_token.ParserToken.{ParserToken}
use Rattle.alloy_syntax.specs.Class.{is_class}
use Rattle.alloy_syntax.specs.Tree.{Tree, named, numbered, constant, bracketed, block, prefixed, chain, path, compared, implies, implies_else, quantified, bound_by_let, no_links, more_links, no_steps, join_first, brackets_first, Declarations, no_declarations, more_declarations}
use Rattle.alloy_syntax.specs.Readers.{next_is, after, is_mark, colon_after_names}
use Rattle.alloy_syntax.specs.Nodes.{begins_step, begins_arrow, is_plain_comparison, begins_comparison, begins_link, in_braces}
use Rattle.alloy_grammar.specs.Fronts.{nothing, sign, mark_of}
use Rattle.alloy_grammar.specs.Levels.{level_of}
use Rattle.alloy_grammar.specs.Nodes.{class_of_constant, class_of_prefix, class_of_operator, class_of_quantifier, class_of_comparison, comparing_over, spells, spells_links, spells_steps, spells_declarations, has_declarations}
use Rattle.alloy_grammar.proofs.Results.{either, true_not_false}
use Rattle.alloy_grammar.proofs.Tokens.{other, marks, and_left, and_right, class_is}
use Rattle.alloy_grammar.proofs.FirstTokens.{rank, First, first, never_first}

-- ---- a token that stands there

pub same_class : (c : Class) → is_class c c ≡ true
unfolding is_class
same_class class.Name = refl
same_class _ = refl

pub is_next : (c : Class) (ts rest : List ParserToken) → mark_of c ts rest → next_is c ts ≡ true
unfolding next_is
is_next c ts rest m = subst (λ us. next_is c us ≡ true) (sym m.1) (subst (λ k. is_class k c ≡ true) (sym m.2) (same_class c))

pub after_is : (c : Class) (ts rest : List ParserToken) → mark_of c ts rest → after ts ≡ rest
after_is c ts rest m = ap after m.1

pub differs : (c d : Class) (ts rest : List ParserToken) → mark_of c ts rest → is_class c d ≡ false → next_is d ts ≡ false
differs c d ts rest m apart = other c d ts (is_next c ts rest m) apart

-- ---- what may stand behind

-- no comma and no colon, where a name before it would begin variables
abbrev pub NoNames : Around → List ParserToken → Type 0
NoNames around.Braces ts = (next_is class.Colon ts ≡ false) × (next_is class.Comma ts ≡ false)
NoNames around.Brackets ts = (next_is class.Colon ts ≡ false) × ((next_is class.Comma ts && colon_after_names (after ts)) ≡ false)
NoNames around.Parens ts = (next_is class.Colon ts ≡ false) × (next_is class.Comma ts ≡ false)

-- no part of that level, or of a tighter one, goes on with these tokens
pub record Ends (a : Around) (l : ℕ) (ts : List ParserToken) : Type 0 where
  pub disjunction : l ≤ 0 → next_is class.Or ts ≡ false
  pub iff : l ≤ 1 → next_is class.Iff ts ≡ false
  pub implication : l ≤ 2 → next_is class.Implies ts ≡ false
  pub conjunction : l ≤ 3 → next_is class.And ts ≡ false
  pub names : l ≤ 4 → NoNames a ts
  pub comparison : l ≤ 5 → begins_comparison a ts ≡ false
  pub sum : l ≤ 7 → begins_link level.Sum ts ≡ false
  pub override : l ≤ 9 → begins_link level.Override ts ≡ false
  pub meet : l ≤ 10 → begins_link level.Meet ts ≡ false
  pub arrow : l ≤ 11 → begins_arrow ts ≡ false
  pub restrict : l ≤ 12 → begins_link level.Restrict ts ≡ false
  pub step : l ≤ 13 → begins_step ts ≡ false

pub tighter : (a : Around) (l m : ℕ) (ts : List ParserToken) → l ≤ m → Ends a l ts → Ends a m ts
tighter a l m ts less e = record {
  disjunction = λ h. e.disjunction (omega arith);
  iff = λ h. e.iff (omega arith);
  implication = λ h. e.implication (omega arith);
  conjunction = λ h. e.conjunction (omega arith);
  names = λ h. e.names (omega arith);
  comparison = λ h. e.comparison (omega arith);
  sum = λ h. e.sum (omega arith);
  override = λ h. e.override (omega arith);
  meet = λ h. e.meet (omega arith);
  arrow = λ h. e.arrow (omega arith);
  restrict = λ h. e.restrict (omega arith);
  step = λ h. e.step (omega arith);
}

-- where a terminal goes on: a chain's operator, a comparison, a step; 20 where none does
unfoldable pub continues : Class → ℕ
continues class.Or = 0
continues class.Iff = 1
continues class.Implies = 2
continues class.And = 3
continues class.In = 5
continues class.Equal = 5
continues class.NotEqual = 5
continues class.Less = 5
continues class.Greater = 5
continues class.AtMost = 5
continues class.AtLeast = 5
continues class.Not = 5
continues class.Plus = 7
continues class.Minus = 7
continues class.PlusPlus = 9
continues class.Ampersand = 10
continues class.Arrow = 11
continues class.Set = 11
continues class.One = 11
continues class.Lone = 11
continues class.Some = 11
continues class.DomainArrow = 12
continues class.RangeArrow = 12
continues class.Dot = 13
continues class.LeftBracket = 13
continues _ = 20

-- the next token doesn't go on at that level or a tighter one
abbrev pub Quiet : Class → ℕ → Type 0
Quiet c l = (continues c < l) ⊎ (continues c ≡ 20)

-- a terminal that goes on at a level from l on isn't a quiet one
apart : (c d : Class) (l : ℕ) → Quiet c l → l ≤ continues d → continues d < 20 → is_class c d ≡ false
apart c d l quiet less small =
    elim (either (is_class c d)) [
      | inr other ↦ other
      | inl is ↦ (
          let same = ap continues (class_is c d is) in
          elim quiet [ inl loose ↦ absurd (omega (arith, same, loose)) | inr none ↦ absurd (omega (arith, same, none)) ])
    ]

quiet_at : (c d : Class) (l : ℕ) (ts rest : List ParserToken) → mark_of c ts rest → Quiet c l → l ≤ continues d → continues d < 20 → next_is d ts ≡ false
quiet_at c d l ts rest m quiet less small = differs c d ts rest m (apart c d l quiet less small)

or_two : (a b : Bool) → a ≡ false → b ≡ false → (a || b) ≡ false
or_two a b e f = rw (e, f) refl

no_mark : (c : Class) (l : ℕ) (ts rest : List ParserToken) → mark_of c ts rest → Quiet c l → l ≤ 11 → is_mark ts ≡ false
unfolding is_mark continues
no_mark c l ts rest m quiet less =
    rw (quiet_at c class.Set l ts rest m quiet less (omega arith), quiet_at c class.One l ts rest m quiet less (omega arith), quiet_at c class.Lone l ts rest m quiet less (omega arith), quiet_at c class.Some l ts rest m quiet less (omega arith)) refl

-- a quiet token ends all of that level and of tighter ones
pub ends_at : (a : Around) (c : Class) (l : ℕ) (ts rest : List ParserToken) → mark_of c ts rest → Quiet c l → (l ≤ 4 → NoNames a ts) → Ends a l ts
unfolding continues begins_link begins_step begins_arrow begins_comparison is_plain_comparison
ends_at a c l ts rest m quiet names_stop = record {
  disjunction = λ h. quiet_at c class.Or l ts rest m quiet h (omega arith);
  iff = λ h. quiet_at c class.Iff l ts rest m quiet h (omega arith);
  implication = λ h. quiet_at c class.Implies l ts rest m quiet h (omega arith);
  conjunction = λ h. quiet_at c class.And l ts rest m quiet h (omega arith);
  names = names_stop;
  comparison = λ h. rw (
    quiet_at c class.In l ts rest m quiet h (omega arith),
    quiet_at c class.Equal l ts rest m quiet h (omega arith),
    quiet_at c class.NotEqual l ts rest m quiet h (omega arith),
    quiet_at c class.Less l ts rest m quiet h (omega arith),
    quiet_at c class.Greater l ts rest m quiet h (omega arith),
    quiet_at c class.AtMost l ts rest m quiet h (omega arith),
    quiet_at c class.AtLeast l ts rest m quiet h (omega arith),
    quiet_at c class.Not l ts rest m quiet h (omega arith),
  ) refl;
  sum = λ h. or_two (next_is class.Plus ts) (next_is class.Minus ts) (quiet_at c class.Plus l ts rest m quiet h (omega arith)) (quiet_at c class.Minus l ts rest m quiet h (omega arith));
  override = λ h. quiet_at c class.PlusPlus l ts rest m quiet h (omega arith);
  meet = λ h. quiet_at c class.Ampersand l ts rest m quiet h (omega arith);
  arrow = λ h. rw (quiet_at c class.Arrow l ts rest m quiet h (omega arith), no_mark c l ts rest m quiet h) refl;
  restrict = λ h. or_two (next_is class.DomainArrow ts) (next_is class.RangeArrow ts) (quiet_at c class.DomainArrow l ts rest m quiet h (omega arith)) (quiet_at c class.RangeArrow l ts rest m quiet h (omega arith));
  step = λ h. or_two (next_is class.Dot ts) (next_is class.LeftBracket ts) (quiet_at c class.Dot l ts rest m quiet h (omega arith)) (quiet_at c class.LeftBracket l ts rest m quiet h (omega arith));
}

pub names_end : (a : Around) (c : Class) (ts rest : List ParserToken) → mark_of c ts rest → is_class c class.Colon ≡ false → is_class c class.Comma ≡ false → NoNames a ts
names_end around.Braces c ts rest m colon other = (differs c class.Colon ts rest m colon, differs c class.Comma ts rest m other)
names_end around.Brackets c ts rest m colon other = (differs c class.Colon ts rest m colon, rw (differs c class.Comma ts rest m other) refl)
names_end around.Parens c ts rest m colon other = (differs c class.Colon ts rest m colon, differs c class.Comma ts rest m other)

-- ---- behind a name that begins a text

-- a comma or a colon
abbrev pub parts_names : List ParserToken → Bool
parts_names ts = next_is class.Comma ts || next_is class.Colon ts

parts_not : (c : Class) (ts rest : List ParserToken) → mark_of c ts rest → is_class c class.Comma ≡ false → is_class c class.Colon ≡ false → parts_names ts ≡ false
parts_not c ts rest m e f = or_two (next_is class.Comma ts) (next_is class.Colon ts) (differs c class.Comma ts rest m e) (differs c class.Colon ts rest m f)

pub operator_parts : (o : Operator) → (is_class (class_of_operator o) class.Comma ≡ false) × (is_class (class_of_operator o) class.Colon ≡ false)
unfolding is_class
operator_parts operator.Or = (refl, refl)
operator_parts _ = (refl, refl)

pub comparison_parts : (c : Comparison) → (is_class (class_of_comparison c) class.Comma ≡ false) × (is_class (class_of_comparison c) class.Colon ≡ false)
unfolding is_class
comparison_parts comparison.In = (refl, refl)
comparison_parts _ = (refl, refl)

pub comparing_begins : (c : Comparison) (b : Bool) (p : Place) (ts rest : List ParserToken) → comparing_over c b p ts rest → parts_names ts ≡ false
unfolding is_class
comparing_begins c false p ts rest s = let k = comparison_parts c in parts_not (class_of_comparison c) ts rest (marks (class_of_comparison c) p ts rest s) k.0 k.1
comparing_begins comparison.In true p ts rest s = parts_not class.Not ts s.0 (marks class.Not p ts s.0 s.1) refl refl
comparing_begins comparison.Equal true p ts rest s =
    elim s [ inl t ↦ parts_not class.Not ts t.0 (marks class.Not p ts t.0 t.1) refl refl | inr t ↦ parts_not class.NotEqual ts rest (marks class.NotEqual p ts rest t) refl refl ]
comparing_begins comparison.Less true p ts rest s = absurd s
comparing_begins comparison.Greater true p ts rest s = absurd s
comparing_begins comparison.AtMost true p ts rest s = absurd s
comparing_begins comparison.AtLeast true p ts rest s = absurd s

no_name : {P : Type 0} (c : Class) (ts rest : List ParserToken) → mark_of c ts rest → is_class c class.Name ≡ false → next_is class.Name ts ≡ true → P
no_name c ts rest m apart is = true_not_false (sym is ∙ differs c class.Name ts rest m apart)

not_there : {P : Type 0} (ts us : List ParserToken) → after ts ≡ us → parts_names (after ts) ≡ true → parts_names us ≡ false → P
not_there ts us same parts none = true_not_false (sym parts ∙ (ap parts_names same ∙ none))

prefix_name : (f : Prefix) → is_class (class_of_prefix f) class.Name ≡ false
unfolding is_class
prefix_name prefix.Not = refl
prefix_name _ = refl

quantifier_name : (q : Quantifier) → is_class (class_of_quantifier q) class.Name ≡ false
unfolding is_class
quantifier_name quantifier.All = refl
quantifier_name _ = refl

constant_name : (c : Constant) → is_class (class_of_constant c) class.Name ≡ false
unfolding is_class
constant_name constants.None = refl
constant_name _ = refl

-- where a comma or a colon stands behind a name that begins a tree's text, the name is all of it
pub then_name : (x : Tree) (ts rest : List ParserToken) → spells x ts rest → next_is class.Name ts ≡ true → parts_names (after ts) ≡ true → after ts ≡ rest
unfolding spells spells_links spells_steps is_class
then_name (named n) ts rest s is parts = elim s [ inl m ↦ ap after m.1 | inr m ↦ ap after m.1 ]
then_name (numbered n) ts rest s is parts = ap after s.1
then_name (constant c p) ts rest s is parts = no_name (class_of_constant c) ts rest (marks (class_of_constant c) p ts rest s) (constant_name c) is
then_name (bracketed p x) ts rest s is parts = no_name class.LeftParen ts s.0 (marks class.LeftParen p ts s.0 s.1) refl is
then_name (block p xs) ts rest s is parts = no_name class.LeftBrace ts s.0 (marks class.LeftBrace p ts s.0 s.1) refl is
then_name (prefixed f p x) ts rest s is parts = no_name (class_of_prefix f) ts s.0 (marks (class_of_prefix f) p ts s.0 s.1) (prefix_name f) is
then_name (chain x no_links) ts rest s is parts = true_not_false (sym s.0)
then_name (chain x (more_links o p y ls)) ts rest s is parts =
    let same = then_name x ts s.1.0 s.1.1.1 is parts in
    let k = operator_parts o in
    not_there ts s.1.0 same parts (parts_not (class_of_operator o) s.1.0 s.1.2.0 (marks (class_of_operator o) p s.1.0 s.1.2.0 s.1.2.1.1) k.0 k.1)
then_name (path x no_steps) ts rest s is parts = true_not_false (sym s.0)
then_name (path x (join_first p y ss)) ts rest s is parts = not_there ts s.1.0 (then_name x ts s.1.0 s.1.1.1 is parts) parts (parts_not class.Dot s.1.0 s.1.2.0 (marks class.Dot p s.1.0 s.1.2.0 s.1.2.1) refl refl)
then_name (path x (brackets_first p ys ss)) ts rest s is parts = not_there ts s.1.0 (then_name x ts s.1.0 s.1.1.1 is parts) parts (parts_not class.LeftBracket s.1.0 s.1.2.0 (marks class.LeftBracket p s.1.0 s.1.2.0 s.1.2.1) refl refl)
then_name (compared x c y) ts rest s is parts = not_there ts s.0 (then_name x ts s.0 s.1.1 is parts) parts (comparing_begins c.comparison c.negated c.place s.0 s.2.0 s.2.1)
then_name (implies x p y) ts rest s is parts = not_there ts s.0 (then_name x ts s.0 s.1.1 is parts) parts (parts_not class.Implies s.0 s.2.0 (marks class.Implies p s.0 s.2.0 s.2.1) refl refl)
then_name (implies_else x p y z) ts rest s is parts = not_there ts s.0 (then_name x ts s.0 s.1.1 is parts) parts (parts_not class.Implies s.0 s.2.0 (marks class.Implies p s.0 s.2.0 s.2.1) refl refl)
then_name (quantified q p ds x) ts rest s is parts = no_name (class_of_quantifier q) ts s.0 (marks (class_of_quantifier q) p ts s.0 s.1) (quantifier_name q) is
then_name (bound_by_let p bs x) ts rest s is parts = no_name class.Let ts s.0 (marks class.Let p ts s.0 s.1) refl is

-- ---- names with commas and a colon

-- what a text of names with commas and a colon goes on with
abbrev pub goes_on_with_names : List ParserToken → Bool
goes_on_with_names ts = next_is class.Colon ts || (next_is class.Comma ts && colon_after_names (after ts))

-- a name, and a colon or a comma with more
pub unfolds_names : (ts : List ParserToken) → colon_after_names ts ≡ true → (next_is class.Name ts ≡ true) × (goes_on_with_names (after ts) ≡ true)
unfolding colon_after_names next_is
unfolds_names [] e = true_not_false (sym e)
unfolds_names (n ∷ []) e = true_not_false (sym e)
unfolds_names (n ∷ m ∷ ts) e = (and_left (is_class n.class class.Name) _ e, and_right (is_class n.class class.Name) _ e)

some_parts : (a b c : Bool) → (a || (b && c)) ≡ true → (b || a) ≡ true
some_parts true true c e = refl
some_parts true false c e = refl
some_parts false true c e = refl
some_parts false false c e = true_not_false (sym e)

-- where a tree's text begins names with commas and a colon, so does what stands behind it
pub names_go_on : (x : Tree) (ts rest : List ParserToken) → spells x ts rest → colon_after_names ts ≡ true → goes_on_with_names rest ≡ true
names_go_on x ts rest s e =
    let both = unfolds_names ts e in
    let parts = some_parts (next_is class.Colon (after ts)) (next_is class.Comma (after ts)) (colon_after_names (after (after ts))) both.1 in
    subst (λ us. goes_on_with_names us ≡ true) (then_name x ts rest s both.0 parts) both.1

-- ---- words that begin a text

-- behind a `!` no comparison goes on, and behind a multiplicity word no arrow
abbrev pub Words : List ParserToken → Type 0
Words ts = (next_is class.Not ts ≡ true → (next_is class.In (after ts) ≡ false) × (next_is class.Equal (after ts) ≡ false)) × (is_mark ts ≡ true → next_is class.Arrow (after ts) ≡ false)

no_words : (c : Class) (ts rest : List ParserToken) → mark_of c ts rest → is_class c class.Not ≡ false → is_class c class.Set ≡ false → is_class c class.One ≡ false → is_class c class.Lone ≡ false → is_class c class.Some ≡ false → Words ts
unfolding is_mark
no_words c ts rest m e1 e2 e3 e4 e5 = (
  λ is. true_not_false (sym is ∙ differs c class.Not ts rest m e1),
  λ is. true_not_false (sym is ∙ rw (differs c class.Set ts rest m e2, differs c class.One ts rest m e3, differs c class.Lone ts rest m e4, differs c class.Some ts rest m e5) refl),
)

-- behind the word stands what begins a tree
words_before : (c : Class) (ts us : List ParserToken) (l : ℕ) → mark_of c ts us → First l us → Words ts
unfolding rank
words_before c ts us l m f = (
  λ is. (subst (λ vs. next_is class.In vs ≡ false) (sym (after_is c ts us m)) (never_first class.In refl l us f), subst (λ vs. next_is class.Equal vs ≡ false) (sym (after_is c ts us m)) (never_first class.Equal refl l us f)),
  λ is. subst (λ vs. next_is class.Arrow vs ≡ false) (sym (after_is c ts us m)) (never_first class.Arrow refl l us f),
)

constant_words : (c : Constant) (p : Place) (ts rest : List ParserToken) → sign (class_of_constant c) p ts rest → Words ts
unfolding is_class
constant_words constants.None p ts rest s = no_words class.None ts rest (marks class.None p ts rest s) refl refl refl refl refl
constant_words constants.Univ p ts rest s = no_words class.Univ ts rest (marks class.Univ p ts rest s) refl refl refl refl refl
constant_words constants.Iden p ts rest s = no_words class.Iden ts rest (marks class.Iden p ts rest s) refl refl refl refl refl

-- the names of variables, or `disj`, stand behind a quantifier
declared_first : (ds : Declarations) (ts rest : List ParserToken) → IsTrue (has_declarations ds) → spells_declarations nothing ds ts rest → next_is class.Arrow ts ≡ false
unfolding spells_declarations is_class
declared_first no_declarations ts rest is s = true_not_false (sym is)
declared_first (more_declarations true ns m x ds) ts rest is s = subst (λ us. next_is class.Arrow us ≡ false) (sym s.1) (differs class.Disj class.Arrow s.0 s.2.0 s.2.1 refl)
declared_first (more_declarations false [] m x ds) ts rest is s = absurd s.2.2.1
declared_first (more_declarations false (n ∷ ns) m x ds) ts rest is s =
    let t = s.2.2.1 in
    let here : next_is class.Arrow s.2.0 ≡ false = differs class.Name class.Arrow s.2.0 t.0 (t.1.0, t.1.1, t.1.2) refl in
    subst (λ us. next_is class.Arrow us ≡ false) (sym (s.1 ∙ s.2.1)) here

not_not : (q : Quantifier) → is_class (class_of_quantifier q) class.Not ≡ false
unfolding is_class
not_not quantifier.All = refl
not_not _ = refl

quantifier_words : (q : Quantifier) (p : Place) (ts us : List ParserToken) → sign (class_of_quantifier q) p ts us → next_is class.Arrow us ≡ false → Words ts
unfolding is_class
quantifier_words q p ts us s none = (
  λ is. true_not_false (sym is ∙ differs (class_of_quantifier q) class.Not ts us (marks (class_of_quantifier q) p ts us s) (not_not q)),
  λ is. subst (λ vs. next_is class.Arrow vs ≡ false) (sym (ap after s.1)) none,
)

pub words : (x : Tree) (ts rest : List ParserToken) → spells x ts rest → Words ts
unfolding spells is_class
words (named n) ts rest s = elim s [
  | inl m ↦ no_words class.Name ts rest (m.0, m.1, m.2) refl refl refl refl refl
  | inr m ↦ no_words class.Path ts rest (m.0, m.1, m.2) refl refl refl refl refl
]
words (numbered n) ts rest s = no_words class.Number ts rest (s.0, s.1, s.2) refl refl refl refl refl
words (constant c p) ts rest s = constant_words c p ts rest s
words (bracketed p x) ts rest s = no_words class.LeftParen ts s.0 (marks class.LeftParen p ts s.0 s.1) refl refl refl refl refl
words (block p xs) ts rest s = no_words class.LeftBrace ts s.0 (marks class.LeftBrace p ts s.0 s.1) refl refl refl refl refl
words (prefixed f p x) ts rest s = words_before (class_of_prefix f) ts s.0 (level_of x) (marks (class_of_prefix f) p ts s.0 s.1) (first x s.0 rest s.2.1)
words (chain x ls) ts rest s = words x ts s.1.0 s.1.1.1
words (path x ss) ts rest s = words x ts s.1.0 s.1.1.1
words (compared x c y) ts rest s = words x ts s.0 s.1.1
words (implies x p y) ts rest s = words x ts s.0 s.1.1
words (implies_else x p y z) ts rest s = words x ts s.0 s.1.1
words (quantified q p ds x) ts rest s = quantifier_words q p ts s.0 s.1 (declared_first ds s.0 s.2.0 s.2.1.0 s.2.1.1)
words (bound_by_let p bs x) ts rest s = no_words class.Let ts s.0 (marks class.Let p ts s.0 s.1) refl refl refl refl refl

-- ---- the next formula of a block

-- the next formula of a block ends the one before it
pub formula_ends : (x : Tree) (ts rest : List ParserToken) → spells x ts rest → Ends around.Braces 0 ts
unfolding rank begins_link begins_step begins_arrow begins_comparison is_plain_comparison in_braces
formula_ends x ts rest s =
    let f = first x ts rest s in
    let w = words x ts rest s in
    let l = level_of x in
    record {
      disjunction = λ h. never_first class.Or refl l ts f;
      iff = λ h. never_first class.Iff refl l ts f;
      implication = λ h. never_first class.Implies refl l ts f;
      conjunction = λ h. never_first class.And refl l ts f;
      names = λ h. (never_first class.Colon refl l ts f, never_first class.Comma refl l ts f);
      comparison = λ h. rw (never_first class.In refl l ts f, never_first class.Equal refl l ts f, never_first class.NotEqual refl l ts f, never_first class.Less refl l ts f, never_first class.Greater refl l ts f, never_first class.AtMost refl l ts f, never_first class.AtLeast refl l ts f)
          (elim (either (next_is class.Not ts)) [ inr none ↦ rw none refl | inl is ↦ (let n = w.0 is in rw (is, n.0, n.1) refl) ]);
      sum = λ h. or_two (next_is class.Plus ts) (next_is class.Minus ts) (never_first class.Plus refl l ts f) (never_first class.Minus refl l ts f);
      override = λ h. never_first class.PlusPlus refl l ts f;
      meet = λ h. never_first class.Ampersand refl l ts f;
      arrow = λ h. rw (never_first class.Arrow refl l ts f) (elim (either (is_mark ts)) [ inr none ↦ rw none refl | inl is ↦ rw (is, w.1 is) refl ]);
      restrict = λ h. or_two (next_is class.DomainArrow ts) (next_is class.RangeArrow ts) (never_first class.DomainArrow refl l ts f) (never_first class.RangeArrow refl l ts f);
      step = λ h. or_two (next_is class.Dot ts) (next_is class.LeftBracket ts) (never_first class.Dot refl l ts f) (never_first class.LeftBracket refl l ts f);
    }
