-- The relations of a problem, by their numbers, and the places that their atoms are.
use Rattle.std.proofs.Common.{◌≡◌, ℕ, zero, suc, ◌+◌, ◌<◌, inl, inr, List, [], ◌∷◌, ◌++◌, map, length, Some, slice_get, Contains, refl, sym, ◌∙◌, ap, subst, arith, add-zero}
use Rattle.std.specs.List.{AllZip, range_with_len}
use Rattle.tuple_core.specs.declared.atom.Atom.{Atom}
use Rattle.rel_formula.specs.declared.problem.Relation.{Relation}
use Rattle.rel_formula.specs.Bounds.{relation_at}
use Rattle.rel_formula.proofs.OpenCells.{cons_cases}
use Rattle.model_sizes.specs.declared.size.Size.{Size}
use Rattle.lowering_rules.specs.Relations.{IsPlaceOf, InProduct, Outline, IsOutlined}

-- the relation of a number has its outline
pub outlined_at : (sizes : List Size) (os : List Outline) (rs : List Relation) → AllZip (IsOutlined sizes) os rs → (r : ℕ) → r < length rs →
    (o : Outline) × (slice_get os r ≡ Some o) × IsOutlined sizes o (relation_at rs r)
outlined_at sizes [] [] h r l = absurd (omega arith)
outlined_at sizes [] (x ∷ rs) h r l = absurd h
outlined_at sizes (o ∷ os) [] h r l = absurd h
outlined_at sizes (o ∷ os) (x ∷ rs) h zero l = (o, refl, h.0)
outlined_at sizes (o ∷ os) (x ∷ rs) h (suc r) l = outlined_at sizes os rs h.1 r (omega arith)

pub same_some : {X : Type 0} (x y : X) → Some x ≡ Some y → x ≡ y
same_some x y e = cc

-- the item at a place of a list that begins with what a function makes of numbers from a on
pub at_number : {X : Type 0} (f : ℕ → X) (ys : List X) (a n i : ℕ) → i < n → slice_get (map f (range_with_len a n) ++ ys) i ≡ Some (f (a + i))
at_number f ys a zero i l = absurd (omega arith)
at_number f ys a (suc n) zero l = ap (λ k. Some (f k)) (sym (add-zero a))
at_number f ys a (suc n) (suc i) l =
    let e : a + 1 + i ≡ a + suc i = omega arith in
    at_number f ys (a + 1) n i (omega arith) ∙ ap (λ k. Some (f k)) e

-- the atom is a place of some signature
abbrev pub IsSomePlace : List Size → Atom → Type 0
IsSomePlace sizes a = (z : Size) × (slice_get sizes a.top ≡ Some z) × (a.place < z.places)

-- each atom of a product is
pub placed : (sizes : List Size) (tops : List ℕ) (t : List Atom) → InProduct sizes tops t → (a : Atom) → Contains t a → IsSomePlace sizes a
placed sizes [] [] h a c = absurd (let l = c.1 in omega arith)
placed sizes [] (b ∷ t) h a c = absurd h
placed sizes (s ∷ tops) [] h a c = absurd h
placed sizes (s ∷ tops) (b ∷ t) h a c = elim (cons_cases b t a c) [
  | inl same ↦ subst (IsSomePlace sizes) same (h.0.size, h.0.sized, h.0.below)
  | inr later ↦ placed sizes tops t h.1 a later
]

-- an atom that is some place, and names the signature that another one names, is a place of it
pub place_moved : (sizes : List Size) (s : ℕ) (a b : Atom) → IsPlaceOf sizes s a → b.top ≡ a.top → IsSomePlace sizes b → IsPlaceOf sizes s b
place_moved sizes s a b h same there = record {
  size = there.0;
  sized = there.1;
  of =
      let e : there.0 ≡ h.size = same_some there.0 h.size (sym there.1 ∙ ap (slice_get sizes) same ∙ h.sized) in
      ap (λ (z : Size). z.signature) e ∙ h.of;
  below = there.2;
}
