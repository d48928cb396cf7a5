-- The arrows of a bound, as far as a loop has come.
use Rattle.std.proofs.Common.{◌≡◌, ℕ, ◌+◌, ◌<◌, true, false, List, ◌∷◌, length, drop, get_or, map, refl, sym, ap, ◌∙◌, if◌then◌else◌, arith}
use Rattle.std.proofs.lemmas.List.{drop_more}
use Rattle.alloy_lex.specs.declared.token.Place.{Place}
use Rattle.alloy_syntax.specs.declared.tree.Operator.{Operator}
use Rattle.alloy_syntax.specs.declared.tree.Operator.TheVariants as operator
use Rattle.named_model.specs.declared.phrase.Link.{Link}
use Rattle.named_model.specs.Phrase.{PhraseTree, LinkTrees, more_links, links_of}
use Rattle.named_model.specs.View.{link_view}
use Rattle.model_types.specs.Models.{bound_arity, arrows_arity}
use Rattle.model_types.specs.Parts.Arrows.{is_arrow}

-- what stands behind operators, from that number on
abbrev pub arrows_from : ℕ → List Link → ℕ
arrows_from i ls = arrows_arity (links_of (map link_view (drop i ls)))

by_operator : (o : Operator) (p : Place) (x : PhraseTree) (ls : LinkTrees) → arrows_arity (more_links o p x ls) ≡ (if is_arrow o then bound_arity x + arrows_arity ls else 0)
by_operator operator.Or p x ls = refl
by_operator operator.Iff p x ls = refl
by_operator operator.And p x ls = refl
by_operator operator.Union p x ls = refl
by_operator operator.Minus p x ls = refl
by_operator operator.Override p x ls = refl
by_operator operator.Meet p x ls = refl
by_operator operator.Product p x ls = refl
by_operator operator.Domain p x ls = refl
by_operator operator.Range p x ls = refl

one_more : (ls : List Link) (i : ℕ) (l : Link) → i < length ls → l ≡ get_or ls i l
    → arrows_from i ls ≡ (if is_arrow (link_view l).operator then bound_arity (link_view l).operand + arrows_from (i + 1) ls else 0)
one_more ls i l below is =
    ap (λ (ks : List Link). arrows_arity (links_of (map link_view ks))) (drop_more ls i l below ∙ ap (λ (k : Link). k ∷ drop (i + 1) ls) (sym is))
    ∙ by_operator (link_view l).operator (link_view l).place (link_view l).operand (links_of (map link_view (drop (i + 1) ls)))

-- an operator that is no arrow
pub arrows_end : (ls : List Link) (i : ℕ) (l : Link) (arity all : ℕ) → i < length ls → l ≡ get_or ls i l → is_arrow (link_view l).operator ≡ false
    → arity + arrows_from i ls ≡ all → arity ≡ all
arrows_end ls i l arity all below is e before =
    let none : arrows_from i ls ≡ 0 = one_more ls i l below is ∙ ap (λ c. if c then bound_arity (link_view l).operand + arrows_from (i + 1) ls else 0) e in
    omega (arith, none, before)

-- and an arrow
pub arrows_more : (ls : List Link) (i : ℕ) (l : Link) (arity more all : ℕ) → i < length ls → l ≡ get_or ls i l → is_arrow (link_view l).operator ≡ true
    → more ≡ bound_arity (link_view l).operand → arity + arrows_from i ls ≡ all → (arity + more) + arrows_from (i + 1) ls ≡ all
arrows_more ls i l arity more all below is e behind before =
    let some : arrows_from i ls ≡ bound_arity (link_view l).operand + arrows_from (i + 1) ls
    = one_more ls i l below is ∙ ap (λ c. if c then bound_arity (link_view l).operand + arrows_from (i + 1) ls else 0) e in
    omega (arith, some, behind, before)
