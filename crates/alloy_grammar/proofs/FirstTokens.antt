-- With which token a tree's text begins, and what may stand behind that token.
use Rattle.std.proofs.Common.{◌≡◌, ℕ, ◌≤◌, ◌<◌, inl, inr, true, false, List, [], ◌∷◌, sym, ap, subst, ◌∙◌, arith}
use Rattle.alloy_lex.specs.declared.token.Place.{Place}
use Rattle.alloy_syntax.specs.declared.class.Class.{Class}
use Rattle.alloy_syntax.specs.declared.class.Class.TheVariants as class
use Rattle.alloy_syntax.specs.declared.tree.Name.{Name}
use Rattle.alloy_syntax.specs.declared.tree.Quantifier.{Quantifier}
use Rattle.alloy_syntax.specs.declared.tree.Quantifier.TheVariants as quantifier
use Rattle.alloy_syntax.specs.declared.tree.Constant.TheVariants as constants
use Rattle.alloy_syntax.specs.declared.tree.Constant.{Constant}
use Rattle.alloy_syntax.specs.declared.tree.Prefix.{Prefix}
use Rattle.alloy_syntax.specs.declared.tree.Prefix.TheVariants as prefix
use Rattle.alloy_syntax.specs.declared.parser_token.ParserToken.{ParserToken}
use Rattle.alloy_syntax.specs.Tree.{Tree, named, numbered, constant, bracketed, block, prefixed, chain, path, compared, implies, implies_else, quantified, bound_by_let}
use Rattle.alloy_syntax.specs.Readers.{next_is}
use Rattle.alloy_grammar.specs.Fronts.{sign, spelled_as}
use Rattle.alloy_grammar.specs.Levels.{level_of_links, level_of, level_of_prefix}
use Rattle.alloy_grammar.specs.Nodes.{class_of_constant, class_of_prefix, class_of_quantifier, spells}
use Rattle.alloy_grammar.proofs.Results.{either}
use Rattle.alloy_grammar.proofs.Tokens.{token, other}

-- how tightly what begins with that terminal may bind; 0 where nothing does
unfoldable pub rank : Class → ℕ
rank class.Name = 15
rank class.Path = 15
rank class.Number = 15
rank class.None = 15
rank class.Univ = 15
rank class.Iden = 15
rank class.LeftParen = 15
rank class.LeftBrace = 15
rank class.Tilde = 14
rank class.Caret = 14
rank class.Star = 14
rank class.Hash = 8
rank class.Some = 6
rank class.No = 6
rank class.Lone = 6
rank class.One = 6
rank class.Not = 4
rank class.All = 4
rank class.Let = 4
rank _ = 0

-- the tokens begin with one that may begin what binds so tightly
pub record First (level : ℕ) (ts : List ParserToken) : Type 0 where
  pub token : ParserToken
  pub behind : List ParserToken
  pub parts : ts ≡ token ∷ behind
  pub begins : 0 < rank token.class
  pub tight : level ≤ rank token.class

abbrev pub looser : {m : ℕ} {ts : List ParserToken} → (l : ℕ) → l ≤ m → First m ts → First l ts
looser l less f = record { token = f.token; behind = f.behind; parts = f.parts; begins = f.begins; tight = omega arith }

first_sign : (c : Class) (p : Place) (ts rest : List ParserToken) → sign c p ts rest → 0 < rank c → First (rank c) ts
first_sign c p ts rest s some = record { token = s.0; behind = rest; parts = s.1; begins = subst (λ k. 0 < rank k) (sym s.2) some; tight = subst (λ k. rank c ≤ rank k) (sym s.2) (omega arith) }

first_spelled : (c : Class) (n : Name) (ts rest : List ParserToken) → spelled_as c n ts rest → 0 < rank c → First (rank c) ts
first_spelled c n ts rest s some = record { token = s.0; behind = rest; parts = s.1; begins = subst (λ k. 0 < rank k) (sym s.2) some; tight = subst (λ k. rank c ≤ rank k) (sym s.2) (omega arith) }

prefix_rank : (f : Prefix) → (0 < rank (class_of_prefix f)) × (level_of_prefix f ≤ rank (class_of_prefix f))
unfolding rank
prefix_rank prefix.Not = (omega arith, omega arith)
prefix_rank prefix.No = (omega arith, omega arith)
prefix_rank prefix.Some = (omega arith, omega arith)
prefix_rank prefix.Lone = (omega arith, omega arith)
prefix_rank prefix.One = (omega arith, omega arith)
prefix_rank prefix.Size = (omega arith, omega arith)
prefix_rank prefix.Transpose = (omega arith, omega arith)
prefix_rank prefix.Closure = (omega arith, omega arith)
prefix_rank prefix.ReflexiveClosure = (omega arith, omega arith)

quantifier_rank : (q : Quantifier) → (0 < rank (class_of_quantifier q)) × (4 ≤ rank (class_of_quantifier q))
unfolding rank
quantifier_rank quantifier.All = (omega arith, omega arith)
quantifier_rank quantifier.Some = (omega arith, omega arith)
quantifier_rank quantifier.No = (omega arith, omega arith)
quantifier_rank quantifier.Lone = (omega arith, omega arith)
quantifier_rank quantifier.One = (omega arith, omega arith)

constant_rank : (c : Constant) → 15 ≤ rank (class_of_constant c)
unfolding rank
constant_rank constants.None = omega arith
constant_rank constants.Univ = omega arith
constant_rank constants.Iden = omega arith

pub first : (x : Tree) (ts rest : List ParserToken) → spells x ts rest → First (level_of x) ts
unfolding spells rank
first (named n) ts rest s = elim s [ inl m ↦ first_spelled class.Name n ts rest m (omega arith) | inr m ↦ first_spelled class.Path n ts rest m (omega arith) ]
first (numbered n) ts rest s = first_sign class.Number n.place ts rest (s.0, s.1, s.2, s.4) (omega arith)
first (constant c p) ts rest s = let r = constant_rank c in looser 15 r (first_sign (class_of_constant c) p ts rest s (omega (arith, r)))
first (bracketed p x) ts rest s = first_sign class.LeftParen p ts s.0 s.1 (omega arith)
first (block p xs) ts rest s = first_sign class.LeftBrace p ts s.0 s.1 (omega arith)
first (prefixed f p x) ts rest s = let r = prefix_rank f in looser (level_of_prefix f) r.1 (first_sign (class_of_prefix f) p ts s.0 s.1 r.0)
first (chain x ls) ts rest s = looser (level_of_links ls) (omega (arith, s.1.1.0)) (first x ts s.1.0 s.1.1.1)
first (path x ss) ts rest s = looser 13 (omega (arith, s.1.1.0)) (first x ts s.1.0 s.1.1.1)
first (compared x c y) ts rest s = looser 5 (omega (arith, s.1.0)) (first x ts s.0 s.1.1)
first (implies x p y) ts rest s = looser 2 (omega (arith, s.1.0)) (first x ts s.0 s.1.1)
first (implies_else x p y z) ts rest s = looser 2 (omega (arith, s.1.0)) (first x ts s.0 s.1.1)
first (quantified q p ds x) ts rest s = let r = quantifier_rank q in looser 4 r.1 (first_sign (class_of_quantifier q) p ts s.0 s.1 r.0)
first (bound_by_let p bs x) ts rest s = first_sign class.Let p ts s.0 s.1 (omega arith)

-- ---- which terminals a text doesn't begin with

abbrev class_at : List ParserToken → Class
class_at [] = class.Refused
class_at (t ∷ ts) = t.class

token_of : (d : Class) (ts : List ParserToken) → next_is d ts ≡ true → class_at ts ≡ d
token_of d ts is = let t = token d ts is in ap class_at t.1 ∙ t.2

-- no tree's text begins with that terminal
pub never_first : (d : Class) → rank d ≡ 0 → (l : ℕ) (ts : List ParserToken) → First l ts → next_is d ts ≡ false
never_first d none l ts f =
    elim (either (next_is d ts)) [
      | inr other ↦ other
      | inl is ↦ (
          let t = token_of d ts is in
          let same : f.token.class ≡ d = ap class_at (sym f.parts) ∙ t in
          absurd (omega (arith, f.begins, ap rank same, none)))
    ]

-- nor with one that is of a looser level
pub too_loose : (d : Class) (l : ℕ) → rank d < l → (ts : List ParserToken) → First l ts → next_is d ts ≡ false
too_loose d l less ts f =
    elim (either (next_is d ts)) [
      | inr other ↦ other
      | inl is ↦ (
          let t = token_of d ts is in
          let same : f.token.class ≡ d = ap class_at (sym f.parts) ∙ t in
          absurd (omega (arith, f.tight, ap rank same, less)))
    ]
