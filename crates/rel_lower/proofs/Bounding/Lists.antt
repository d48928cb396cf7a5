-- The lists of bounds, as far as a loop has come, and products of lists that are the same.
use Rattle.std.proofs.Common.{◌≡◌, ℕ, ◌+◌, ◌<◌, ◌≤◌, List, [], ◌∷◌, length, drop, get_or, map, Contains, bytes_eq, sym, ◌∙◌, ap, subst, Box, Vec, Global}
use Rattle.std.proofs.lemmas.Cmp.{nat_list_eq_equiv}
use Rattle.std.proofs.lemmas.List.{drop_more, drop_all}
use Rattle.std.proofs.lemmas.Map.Views.{Contains-from_any, list_any-from_Contains}
use Rattle.std.proofs.lemmas.Slice.Eq.{bytes_eq-Decides}
use Rattle.tuple_core.specs.Gains.{Same}
use Rattle.alloy_syntax.specs.declared.tree.Operator.{Operator}
use Rattle.named_model.specs.declared.named.Signature.{Signature}
use Rattle.named_model.specs.declared.phrase.Phrase.{Phrase, Chain, fold-roll-Phrase}
use Rattle.named_model.specs.declared.phrase.Phrase.TheVariants.{rolls-Chain}
use Rattle.named_model.specs.declared.phrase.Phrase.TheOpen.{Phrase-F}
use Rattle.named_model.specs.declared.phrase.Link.{Link, fold_out-Link}
use Rattle.named_model.specs.Phrase.{PhraseTree, StepTree, DomainTree, LinkTree, chain, links_of}
use Rattle.named_model.specs.View.{phrase_view, link_view, phrase_level, step_level, domain_level, link_level}
use Rattle.model_sizes.specs.declared.size.Size.{Size}
use Rattle.model_types.specs.Bounding.{Lists, operator_type}
use Rattle.lowering_rules.specs.Relations.{InProducts}
use Rattle.model_types.specs.Bounds.Same.{AreSame}
use Rattle.rel_lower.specs.Bounding.Bounds.{bound_type, links_type_in}

-- ---- links

-- what is seen of a chain, and of a link
pub chain_seen : (first : Box Phrase Global) (links : Vec Link Global) → phrase_view (Chain first links) ≡ chain (phrase_view first.value) (links_of (map link_view links.items))
chain_seen first links =
    ap phrase_view (sym (rolls-Chain first links)) ∙ fold-roll-Phrase PhraseTree StepTree DomainTree LinkTree phrase_level step_level domain_level link_level (Phrase-F.Chain first links)

pub parts_of : (l : Link) → link_view l ≡ record { operator = l.operator; place = l.place; operand = phrase_view l.operand }
parts_of l = fold_out-Link PhraseTree StepTree DomainTree LinkTree phrase_level step_level domain_level link_level l

-- what the operators from that number on make of lists
abbrev pub from_link : List Signature → Lists → ℕ → List Link → Lists
from_link xs a i ls = links_type_in xs a (links_of (map link_view (drop i ls)))

-- the lists here stand for some of which the others make what all make of the first
abbrev pub AreOnTheWay : List Signature → List Link → Lists → ℕ → Lists → Type 0
AreOnTheWay xs ls first i now = (a : Lists) × AreSame now a × (from_link xs a i ls ≡ from_link xs first 0 ls)

pub one_link : (xs : List Signature) (ls : List Link) (first : Lists) (i : ℕ) (l : Link) (o : Operator) (x : PhraseTree) (now next operand : Lists) → i < length ls → l ≡ get_or ls i l
    → (link_view l).operator ≡ o → (link_view l).operand ≡ x → AreSame operand (bound_type xs x) → ((p q : Lists) → AreSame now p → AreSame operand q → AreSame next (operator_type o p q))
    → AreOnTheWay xs ls first i now → AreOnTheWay xs ls first (i + 1) next
one_link xs ls first i l o x now next operand below is by right behind made b =
    let all : drop i ls ≡ l ∷ drop (i + 1) ls = drop_more ls i l below ∙ ap (λ (k : Link). k ∷ drop (i + 1) ls) (sym is) in
    let parts : operator_type (link_view l).operator b.0 (bound_type xs (link_view l).operand) ≡ operator_type o b.0 (bound_type xs x) =
    ap (λ p. operator_type p b.0 (bound_type xs (link_view l).operand)) by ∙ ap (λ y. operator_type o b.0 (bound_type xs y)) right in (
      operator_type o b.0 (bound_type xs x),
      made b.0 (bound_type xs x) b.1 behind,
      sym (ap (λ (ks : List Link). links_type_in xs b.0 (links_of (map link_view ks))) all ∙ ap (λ a. from_link xs a (i + 1) ls) parts) ∙ b.2,
    )

pub at_end : (xs : List Signature) (ls : List Link) (first : Lists) (i : ℕ) (now : Lists) → length ls ≤ i → AreOnTheWay xs ls first i now → AreSame now (links_type_in xs first (links_of (map link_view ls)))
at_end xs ls first i now past b =
    let none : drop i ls ≡ [] = drop_all i ls past in
    subst (AreSame now) (sym (ap (λ (ks : List Link). links_type_in xs b.0 (links_of (map link_view ks))) none) ∙ b.2) b.1

-- ---- products

has_same : (a b : Lists) (l : List ℕ) → AreSame a b → Contains a l → Contains b l
has_same a b l same c =
    Contains-from_any (λ x y. (bytes_eq-Decides x y).0) l b (sym (same (λ y. bytes_eq l y)) ∙ list_any-from_Contains nat_list_eq_equiv l a c)

pub same_products : (sizes : List Size) (a b : Lists) → AreSame a b → Same (InProducts sizes a) (InProducts sizes b)
same_products sizes a b same = record {
  to = λ t h. (h.0, has_same a b h.0 same h.1, h.2);
  back = λ t h. (h.0, has_same b a h.0 (λ test. sym (same test)) h.1, h.2);
}
