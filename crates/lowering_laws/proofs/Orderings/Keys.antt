-- Rows by their keys, and the first number of a name.
use Rattle.std.specs.Prelude.{flat_map, bytes_eq, not, ◌&&◌}
use Rattle.std.proofs.Common.{◌≡◌, inl, inr, ℕ, zero, suc, ◌+◌, ◌≤◌, true, false, Bool, List, [], ◌∷◌, map, length, slice_get, Some, Contains, refl, sym, ◌∙◌, ap, subst, arith, add-zero, zero-add}
use Rattle.std.specs.List.{position_from, list_any}
use Rattle.std.proofs.lemmas.Bool.{cases_Bool}
use Rattle.std.proofs.lemmas.List.{length-append}
use Rattle.std.proofs.lemmas.Iterator.Adapters.{position_from-zero}
use Rattle.rel_formula.proofs.OpenCells.{cons_cases}
use Rattle.named_model.specs.Names.{number_of}
use Rattle.lowering_laws.proofs.Orderings.Lines.{none_in}
use Rattle.lowering_laws.proofs.Orderings.Occurrences.{same_text, text_same}
use Rattle.lowering_laws.proofs.Orderings.Declared.{not_any}

-- ---- a name that stands there has a number

first_from : (k : ℕ) (names : List (List ℕ)) (text : List ℕ) → Contains names text → (i : ℕ) × (position_from (λ n. bytes_eq n text) k names ≡ Some (k + i)) × (slice_get names i ≡ Some text)
first_from k [] text c = absurd (none_in text c)
first_from k (n ∷ names) text c = elim (cases_Bool (bytes_eq n text)) [
  | inl here ↦ (zero, rw here (ap Some (sym (add-zero k))), ap Some (same_text n text here))
  | inr apart ↦ elim (cons_cases n names text c) [
    | inl same ↦ absurd (let both : bytes_eq n text ≡ true = text_same n text same in cc)
    | inr later ↦
        let rest = first_from (k + 1) names text later in
        (suc rest.0, rw apart (rest.1 ∙ ap Some (omega arith)), rest.2)
  ]
]

pub first_number : (names : List (List ℕ)) (text : List ℕ) → Contains names text → (i : ℕ) × (number_of names text ≡ Some i) × (slice_get names i ≡ Some text)
first_number names text c =
    let at = first_from 0 names text c in
    (at.0, position_from-zero (λ n. bytes_eq n text) names ∙ at.1 ∙ ap Some (zero-add at.0), at.2)

-- ---- rows with keys that differ

abbrev pub keys_differ : {X : Type 0} → List (List ℕ × X) → Bool
keys_differ [] = true
keys_differ (r ∷ rs) = not (list_any (λ q. bytes_eq q.0 r.0) rs) && keys_differ rs

both_true : (a b : Bool) → (not a && b) ≡ true → (a ≡ false) × (b ≡ true)
both_true true b e = absurd cc
both_true false b e = (refl, e)

pub one_row : {X : Type 0} (rs : List (List ℕ × X)) → keys_differ rs ≡ true → (r q : List ℕ × X) → Contains rs r → Contains rs q → r.0 ≡ q.0 → r ≡ q
one_row [] e r q c d same = absurd (none_in r c)
one_row (x ∷ rs) e r q c d same =
    let both = both_true (list_any (λ y. bytes_eq y.0 x.0) rs) (keys_differ rs) e in
    elim (cons_cases x rs r c) [
      | inl first ↦ elim (cons_cases x rs q d) [
        | inl second ↦ sym first ∙ second
        | inr later ↦ absurd (not_any (λ y. bytes_eq y.0 x.0) rs q both.0 later (text_same q.0 x.0 (sym same ∙ ap (λ y. y.0) (sym first))))
      ]
      | inr before ↦ elim (cons_cases x rs q d) [
        | inl second ↦ absurd (not_any (λ y. bytes_eq y.0 x.0) rs r both.0 before (text_same r.0 x.0 (same ∙ ap (λ y. y.0) (sym second))))
        | inr later ↦ one_row rs both.1 r q before later same
      ]
    ]

-- what two maps that make the same list make of an element
pub same_at : {X Y : Type 0} (f g : X → Y) (xs : List X) → map f xs ≡ map g xs → (x : X) → Contains xs x → f x ≡ g x
same_at f g [] e x c = absurd (none_in x c)
same_at f g (y ∷ ys) e x c = elim (cons_cases y ys x c) [
  | inl same ↦ (let head : f y ≡ g y = cc in subst (λ z. f z ≡ g z) same head)
  | inr later ↦ (let tail : map f ys ≡ map g ys = cc in same_at f g ys tail x later)
]

pub part_of : {P X : Type 0} (k : P → List X) (ps : List P) (p : P) → Contains ps p → length (k p) ≤ length (flat_map k ps)
part_of k [] p c = absurd (none_in p c)
part_of k (q ∷ ps) p c =
    let long = length-append (k q) (flat_map k ps) in
    elim (cons_cases q ps p c) [
      | inl same ↦ (let e : length (k q) ≡ length (k p) = ap (λ r. length (k r)) same in omega (arith, long, e))
      | inr later ↦ (let l = part_of k ps p later in omega (arith, long, l))
    ]
