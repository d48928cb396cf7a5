-- The atoms of a problem are few, and those of its top-level signatures differ.
use Rattle.std.proofs.Common.{◌≡◌, ℕ, zero, suc, ◌+◌, ◌<◌, inl, inr, List, [], ◌∷◌, ◌++◌, map, length, Some, None, slice_get, Contains, true, is_none, Option, refl, sym, ◌∙◌, ap, subst, arith, zero-add, add-zero}
use Rattle.std.specs.List.{range_with_len}
use Rattle.std.proofs.lemmas.List.{length-append}
use Rattle.std.proofs.lemmas.List.FromFn.{length-map-range_with_len}
use Rattle.std.proofs.lemmas.Slice.Zip.{AllZip-long}
use Rattle.std.proofs.lemmas.List.Elements.{Contains-append_right}
use Rattle.tuple_core.specs.declared.atom.Atom.{Atom}
use Rattle.rel_formula.specs.Bounds.{Bounded, HasFewAtoms, HasDisjointTops, relation_at}
use Rattle.rel_formula.proofs.OpenCells.{cons_cases}
use Rattle.rel_formula.proofs.Lists.{some-Contains}
use Rattle.named_model.specs.declared.named.Signature.{Signature}
use Rattle.named_model.specs.Model.{NamedTree}
use Rattle.named_model.specs.Signatures.{signature_at, top_within, top_of}
use Rattle.model_sizes.specs.declared.size.Size.{Size}
use Rattle.model_sizes.specs.Sizes.{places_in}
use Rattle.lowering_rules.specs.Relations.{IsPlaceOf, InProduct, IsOutlined, signature_outline, field_outline}
use Rattle.lowering_rules.specs.Problem.{ProblemOf}
use Rattle.lowering_rules.proofs.Outlined.{outlined_at, same_some, at_number}
use Rattle.lowering_rules.proofs.Symmetric.{atom_placed}
use Rattle.lowering_rules.proofs.Tops.{picked, sized}

-- ---- at most 64

abbrev atom : ℕ → ℕ → Atom
atom top place = record { top = top; place = place }

-- all places of signatures that are numbered from k on
abbrev atoms_from : ℕ → List Size → List Atom
atoms_from k [] = []
atoms_from k (z ∷ zs) = map (atom k) (range_with_len 0 z.places) ++ atoms_from (k + 1) zs

atoms_count : (k : ℕ) (zs : List Size) → length (atoms_from k zs) ≡ places_in zs
atoms_count k [] = refl
atoms_count k (z ∷ zs) =
    length-append (map (atom k) (range_with_len 0 z.places)) (atoms_from (k + 1) zs)
    ∙ ap (λ j. j + length (atoms_from (k + 1) zs)) (length-map-range_with_len (atom k) 0 z.places)
    ∙ ap (λ j. z.places + j) (atoms_count (k + 1) zs)

has_atom : (k : ℕ) (zs : List Size) (i place : ℕ) (z : Size) → slice_get zs i ≡ Some z → place < z.places → Contains (atoms_from k zs) (atom (k + i) place)
has_atom k [] i place z e l = absurd cc
has_atom k (y ∷ zs) zero place z e l =
    let same : y ≡ z = same_some y z e in
    let below : place < y.places = subst (λ (x : Size). place < x.places) (sym same) l in
    let at = at_number (atom k) (atoms_from (k + 1) zs) 0 y.places place below in
    let top : k + 0 ≡ k = add-zero k in
    subst (λ j. Contains (atoms_from k (y ∷ zs)) (atom j place)) (sym top)
    (subst (λ j. Contains (atoms_from k (y ∷ zs)) (atom k j)) (zero-add place) (some-Contains (atoms_from k (y ∷ zs)) place (atom k (0 + place)) at))
has_atom k (y ∷ zs) (suc i) place z e l =
    let there = has_atom (k + 1) zs i place z e l in
    let top : k + 1 + i ≡ k + suc i = omega arith in
    Contains-append_right (map (atom k) (range_with_len 0 y.places)) (atoms_from (k + 1) zs) (atom (k + suc i) place)
    (subst (λ j. Contains (atoms_from (k + 1) zs) (atom j place)) top there)

pub few_atoms : (m : NamedTree) (n : ℕ) (facts : List ℕ) (p : Bounded) → ProblemOf m n facts p → HasFewAtoms p
few_atoms m n facts p of = (
  atoms_from 0 of.sizes,
  (let count = atoms_count 0 of.sizes in let most = (sized m n of.sizes of.commands.sized).1 in omega arith),
  λ a is.
      let place = atom_placed m n facts p of a is in
      subst (λ j. Contains (atoms_from 0 of.sizes) (atom j a.place)) (zero-add a.top) (has_atom 0 of.sizes a.top a.place place.0 place.1 place.2),
)

-- ---- disjoint

none_of : {X : Type 0} (x : Option X) → is_none x ≡ true → x ≡ None
none_of None e = refl
none_of (Some x) e = absurd cc

-- a signature without a parent is its own top-level signature
pub top_within-top : (xs : List Signature) (n s : ℕ) → (signature_at xs s).parent ≡ None → top_within xs n s ≡ s
top_within-top xs zero s e = refl
top_within-top xs (suc n) s e = ap (λ o. elim o [ None ↦ s | Some p ↦ top_within xs n p.1 ]) e

single : (sizes : List Size) (s : ℕ) (t : List Atom) → InProduct sizes (s ∷ []) t → (a : Atom) × IsPlaceOf sizes s a × (t ≡ a ∷ [])
single sizes s [] h = absurd h
single sizes s (a ∷ []) h = (a, h.0, refl)
single sizes s (a ∷ b ∷ t) h = absurd h.1

same_first : (a b : Atom) → a ∷ [] ≡ b ∷ [] → a ≡ b
same_first a b e = cc

module _ (m : NamedTree) (n : ℕ) (facts : List ℕ) (p : Bounded) (of : ProblemOf m n facts p) where
  pub below : (r : ℕ) → r < length m.signatures → r < length p.relations
  below r l =
      let signatures = map (signature_outline m of.sizes) (range_with_len 0 (length m.signatures)) in
      let fields = map (field_outline m) m.fields in
      let long = AllZip-long (IsOutlined of.sizes) (signatures ++ fields) p.relations of.relations in
      let both = length-append signatures fields in
      let first = length-map-range_with_len (signature_outline m of.sizes) 0 (length m.signatures) in
      omega arith

  -- the relation of a signature has its outline
  pub outlined : (r : ℕ) → r < length m.signatures → IsOutlined of.sizes (signature_outline m of.sizes r) (relation_at p.relations r)
  outlined r l =
      let o = outlined_at of.sizes _ p.relations of.relations r (below r l) in
      let at = at_number (signature_outline m of.sizes) (map (field_outline m) m.fields) 0 (length m.signatures) r l in
      let same : o.0 ≡ signature_outline m of.sizes r =
      same_some o.0 (signature_outline m of.sizes (0 + r)) (sym o.1 ∙ at) ∙ ap (signature_outline m of.sizes) (zero-add r) in
      subst (λ q. IsOutlined of.sizes q (relation_at p.relations r)) same o.2

  -- the number of a top-level signature
  pub top_at : (r : ℕ) → Contains p.tops r → (r < length m.signatures) × ((signature_at m.signatures r).parent ≡ None)
  top_at r top =
      let i = picked (λ x. is_none x.parent) 0 m.signatures r (subst (λ ts. Contains ts r) of.tops top) in
      let number : r ≡ i.0 = i.1 ∙ zero-add i.0 in (
        subst (λ j. j < length m.signatures) (sym number) i.2,
        subst (λ j. (signature_at m.signatures j).parent ≡ None) (sym number) (none_of (signature_at m.signatures i.0).parent i.3),
      )

  -- the atom that alone makes up a tuple of a top-level signature's relation
  the_atom : (r : ℕ) (t : List Atom) → Contains p.tops r → Contains (relation_at p.relations r).upper.rows t → (a : Atom) × IsPlaceOf of.sizes r a × (t ≡ a ∷ [])
  the_atom r t top has =
      let at = top_at r top in
      let alone : top_of m.signatures r ≡ r = top_within-top m.signatures (length m.signatures) r at.1 in
      let may = ((outlined r at.0).upper.just t).0 has in
      let only : top_of m.signatures r ∷ [] ≡ may.0 = elim (cons_cases (top_of m.signatures r ∷ []) [] may.0 may.1) [
        | inl e ↦ e
        | inr c ↦ absurd (let none = c.1 in omega arith)
      ] in
      let a = single of.sizes (top_of m.signatures r) t (subst (λ tops. InProduct of.sizes tops t) (sym only) may.2) in
      (a.0, subst (λ s. IsPlaceOf of.sizes s a.0) alone a.1, a.2)

  pub disjoint_tops : HasDisjointTops p
  disjoint_tops r s t tr ts hr hs =
      let x = the_atom r t tr hr in
      let y = the_atom s t ts hs in
      let same : x.0 ≡ y.0 = same_first x.0 y.0 (sym x.2 ∙ y.2) in
      let sizes : x.1.size ≡ y.1.size = same_some x.1.size y.1.size (sym x.1.sized ∙ ap (λ (a : Atom). slice_get of.sizes a.top) same ∙ y.1.sized) in
      sym x.1.of ∙ ap (λ (z : Size). z.signature) sizes ∙ y.1.of
