-- Calls from one to another, and walks along them.
use Rattle.std.proofs.Common.{◌≡◌, ℕ, zero, suc, ◌+◌, ◌<◌, ◌≤◌, ◌==◌, Bool, true, false, ◌||◌, List, [], ◌∷◌, ◌++◌, map, length, Some, None, refl, sym, ap, ◌∙◌, subst, arith, inl, inr, if◌then◌else◌}
use Rattle.std.specs.List.{list_any}
use Rattle.std.proofs.lemmas.List.{length-map}
use Rattle.std.proofs.lemmas.Bool.{cases_Bool, eqb-true, eq-eqb}
use Rattle.reference_cycles.specs.Cycles.Walks.{row_of, among, IsWalk, IsAcyclic, IsCyclic, IsFirstCyclic}
use Rattle.reference_cycles.proofs.Cycles.WalkEdges.{either, or_left, or_right}
use Rattle.named_model.specs.declared.fault.NameFault.TheVariants.{Recursive}
use Rattle.named_model.specs.Answers.{first_in}
use Rattle.named_model.specs.Model.{CalleeTree}
use Rattle.named_model.specs.Faults.{callees_of, calls_within, recursive_from, recursive_faults}
use Rattle.reference_cycles.specs.Recursion.Calls.{fault_at}

any_weaker : (p q : ℕ → Bool) (xs : List ℕ) → ((x : ℕ) → p x ≡ true → q x ≡ true) → list_any p xs ≡ true → list_any q xs ≡ true
any_weaker p q [] f h = h
any_weaker p q (x ∷ xs) f h =
    elim (either (p x) (list_any p xs) h) [
      | inl here ↦ or_left (q x) (list_any q xs) (f x here)
      | inr there ↦ or_right (q x) (list_any q xs) (any_weaker p q xs f there)
    ]

any_found : (p : ℕ → Bool) (xs : List ℕ) → list_any p xs ≡ true → (x : ℕ) × (p x ≡ true) × (among x xs ≡ true)
any_found p [] h = absurd cc
any_found p (x ∷ xs) h =
    elim (either (p x) (list_any p xs) h) [
      | inl here ↦ (x, here, or_left (x == x) (among x xs) (eq-eqb x x refl))
      | inr there ↦ let w = any_found p xs there in (w.0, w.1, or_right (x == w.0) (among w.0 xs) w.2)
    ]

module _ (rows : List (List ℕ)) where
  -- a walk is a chain of calls
  walk_within : (n k : ℕ) (over : List ℕ) (l : ℕ) → IsWalk rows k over l → length over ≤ n → calls_within rows n k l ≡ true
  walk_within zero k [] l walk h = walk
  walk_within zero k (x ∷ over) l walk h = absurd (omega arith)
  walk_within (suc n) k [] l walk h = any_weaker (λ r. r == l) (λ r. (r == l) || calls_within rows n r l) (row_of rows k) (λ r e. or_left (r == l) (calls_within rows n r l) e) walk
  walk_within (suc n) k (x ∷ over) l walk h =
      any_weaker (λ r. r == x) (λ r. (r == l) || calls_within rows n r l) (row_of rows k)
      (λ r e. or_right (r == l) (calls_within rows n r l) (ap (λ y. calls_within rows n y l) (eqb-true r x e) ∙ walk_within n x over l walk.1 (omega arith))) walk.0

  -- and a chain of calls is a walk
  within_walk : (n k l : ℕ) → calls_within rows n k l ≡ true → (over : List ℕ) × IsWalk rows k over l
  within_walk zero k l h = ([], h)
  within_walk (suc n) k l h =
      let w = any_found (λ r. (r == l) || calls_within rows n r l) (row_of rows k) h in
      elim (either (w.0 == l) (calls_within rows n w.0 l) w.1) [
        | inl here ↦ ([], subst (λ y. among y (row_of rows k) ≡ true) (eqb-true w.0 l here) w.2)
        | inr there ↦ let v = within_walk n w.0 l there in (w.0 ∷ v.0, (w.2, v.1))
      ]

  not_within : (n k : ℕ) → IsAcyclic rows k → calls_within rows n k k ≡ false
  not_within n k acyclic =
      elim (cases_Bool (calls_within rows n k k)) [
        | inl calls ↦ let w = within_walk n k k calls in absurd (acyclic w.0 w.1)
        | inr never ↦ never
      ]

  is_within : (k : ℕ) → IsCyclic rows k → calls_within rows (length rows) k k ≡ true
  is_within k cyclic = walk_within (length rows) k cyclic.0 k cyclic.1 (omega (arith, cyclic.2))

  -- the first one that calls itself is told
  first_told : (from : ℕ) (cs : List CalleeTree) (j : ℕ) → j < length cs → ((i : ℕ) → i < j → calls_within rows (length rows) (from + i) (from + i) ≡ false) → calls_within rows (length rows) (from + j) (from + j) ≡ true → first_in (recursive_from rows from (map (λ (c : CalleeTree). c.place) cs)) ≡ fault_at cs j
  first_told from [] j l none here = absurd (omega arith)
  first_told from (c ∷ cs) zero l none here =
      ap (λ b. first_in ((if b then Recursive c.place ∷ [] else []) ++ recursive_from rows (from + 1) (map (λ (c : CalleeTree). c.place) cs)))
      (let e : from ≡ from + 0 = omega arith in ap (λ k. calls_within rows (length rows) k k) e ∙ here)
  first_told from (c ∷ cs) (suc j) l none here =
      ap (λ b. first_in ((if b then Recursive c.place ∷ [] else []) ++ recursive_from rows (from + 1) (map (λ (c : CalleeTree). c.place) cs)))
      (let e : from ≡ from + 0 = omega arith in ap (λ k. calls_within rows (length rows) k k) e ∙ none 0 (omega arith))
      ∙ first_told (from + 1) cs j (omega arith)
      (λ i h. let e : (from + 1) + i ≡ from + suc i = omega arith in ap (λ k. calls_within rows (length rows) k k) e ∙ none (suc i) (omega arith))
      (let e : (from + 1) + j ≡ from + suc j = omega arith in ap (λ k. calls_within rows (length rows) k k) e ∙ here)

  none_told : (from : ℕ) (cs : List CalleeTree) → ((i : ℕ) → i < length cs → calls_within rows (length rows) (from + i) (from + i) ≡ false) → first_in (recursive_from rows from (map (λ (c : CalleeTree). c.place) cs)) ≡ None
  none_told from [] none = refl
  none_told from (c ∷ cs) none =
      ap (λ b. first_in ((if b then Recursive c.place ∷ [] else []) ++ recursive_from rows (from + 1) (map (λ (c : CalleeTree). c.place) cs)))
      (let e : from ≡ from + 0 = omega arith in ap (λ k. calls_within rows (length rows) k k) e ∙ none 0 (omega arith))
      ∙ none_told (from + 1) cs
      (λ i h. let e : (from + 1) + i ≡ from + suc i = omega arith in ap (λ k. calls_within rows (length rows) k k) e ∙ none (suc i) (omega arith))

plus_zero : (i : ℕ) → 0 + i ≡ i
plus_zero i = omega arith

pub some_calls_itself : (cs : List CalleeTree) (k : ℕ) → IsFirstCyclic (map callees_of cs) (Some k) → fault_at cs k ≡ first_in (recursive_faults cs)
some_calls_itself cs k first =
    let rows = map callees_of cs in
    let l : k < length cs = omega (arith, first.0, length-map cs callees_of) in
    sym (first_told rows 0 cs k l
    (λ i h. ap (λ j. calls_within rows (length rows) j j) (plus_zero i) ∙ not_within rows (length rows) i (first.2 i h))
    (ap (λ j. calls_within rows (length rows) j j) (plus_zero k) ∙ is_within rows k first.1))

pub none_calls_itself : (cs : List CalleeTree) → IsFirstCyclic (map callees_of cs) None → None ≡ first_in (recursive_faults cs)
none_calls_itself cs first =
    let rows = map callees_of cs in
    sym (none_told rows 0 cs (λ i h. ap (λ j. calls_within rows (length rows) j j) (plus_zero i) ∙ not_within rows (length rows) i (first i (omega (arith, h, length-map cs callees_of)))))
