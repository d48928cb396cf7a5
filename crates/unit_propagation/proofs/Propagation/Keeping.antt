-- What keeps the rule of watched literals.
use Rattle.std.proofs.Common.{◌≡◌, ◌<◌, ◌≤◌, ◌+◌, ◌/◌, ◌++◌, [], ◌∷◌, ℕ, Bool, true, false, None, List, length, get_or, set, take, arith, sym, ◌∙◌, ap, inl, inr, subst, length-append, length-take, get_or-set_other, get_or-set_same}
use Rattle.std.proofs.lemmas.Bool.{cases_lt, cases_eq}
use Rattle.std.proofs.lemmas.List.{get_or_append_left, get_or-take, set_past}
use Rattle.std.specs.List.{Contains}
use Rattle.cnf_core.specs.Literal.{negation_of}
use Rattle.unit_propagation.specs.Clauses.Codes.{literal_of}
use Rattle.unit_propagation.specs.declared.assignment_trail.assigned.Assigned.{Assigned}
use Rattle.unit_propagation.specs.Assignments.Trail.{falses_of}
use Rattle.unit_propagation.specs.Assignments.AssignmentState.{IsConsistent}
use Rattle.unit_propagation.specs.Propagation.Rule.{twin, watched, IsMarked, IsCovered, IsRightAt, IsWatchedRight}
use Rattle.unit_propagation.proofs.Assignments.Trails.{true_false, false_from}

-- one more literal is true
module _ (codes : List ℕ) (assigned : List Assigned) (marked : List Bool) (a : Assigned) (i x : ℕ) (propagated : i < length assigned) where
  old_at : (k : ℕ) (d : Assigned) → k < length assigned → get_or (assigned ++ a ∷ []) k d ≡ get_or assigned k d
  old_at k d h = get_or_append_left assigned (a ∷ []) d k h

  pub covered_push : IsCovered codes assigned x i → IsCovered codes (assigned ++ a ∷ []) x i
  covered_push c =
      record {
        place = c.place;
        in_range = omega (arith, c.in_range, length-append assigned (a ∷ []));
        true_there = λ d. ap (λ (b : Assigned). b.lit) (old_at c.place d c.in_range) ∙ c.true_there d;
        low = λ d. let here : (get_or (assigned ++ a ∷ []) c.place d).level ≡ (get_or assigned c.place d).level = ap (λ (b : Assigned). b.level) (old_at c.place d c.in_range) in
            let there : (get_or (assigned ++ a ∷ []) i d).level ≡ (get_or assigned i d).level = ap (λ (b : Assigned). b.level) (old_at i d propagated) in
            let low : (get_or assigned c.place d).level ≤ (get_or assigned i d).level = c.low d in
            omega arith;
      }

  pub right_push : IsRightAt codes assigned marked i x → IsRightAt codes (assigned ++ a ∷ []) marked i x
  right_push was is =
      elim (was (λ d. sym (ap (λ (b : Assigned). negation_of b.lit) (old_at i d propagated)) ∙ is d)) [
        | inl m ↦ inl m
        | inr c ↦ inr (covered_push c)
      ]

-- one more clause is marked
pub marked_more : (marked : List Bool) (n m : ℕ) → IsMarked marked m → IsMarked (set marked n true) m
marked_more marked n m h =
    elim (cases_eq m n) [
      | inr ne ↦ get_or-set_other marked n m true false ne ∙ h
      | inl is ↦ elim (cases_lt n (length marked)) [
        | inl in' ↦ ap (λ (k : ℕ). get_or (set marked n true) k false) is ∙ get_or-set_same marked n true false in'
        | inr past ↦ subst (λ (ms : List Bool). IsMarked ms m) (sym (set_past marked n true past)) h
      ]
    ]

pub right_mark : (codes : List ℕ) (assigned : List Assigned) (marked : List Bool) (n i x : ℕ) → IsRightAt codes assigned marked i x → IsRightAt codes assigned (set marked n true) i x
right_mark codes assigned marked n i x was is = elim (was is) [ inl m ↦ inl (marked_more marked n (x / 2) m) | inr c ↦ inr c ]

-- a slot watches another literal, which is not false, in place of one that is
module _ (codes : List ℕ) (assigned : List Assigned) (marked : List Bool) (consistent : IsConsistent (falses_of assigned)) (x code : ℕ) (in_codes : x < length codes) (gone : Contains (falses_of assigned) (watched codes x)) (free : Contains (falses_of assigned) (literal_of code) → ⊥) where
  same_at : (y : ℕ) → (y ≡ x → ⊥) → watched (set codes x code) y ≡ watched codes y
  same_at y ne = ap literal_of (get_or-set_other codes x y code 0 ne)

  new_at : watched (set codes x code) x ≡ literal_of code
  new_at = ap literal_of (get_or-set_same codes x code 0 in_codes)

  pub right_bring : (i y : ℕ) → i < length assigned → IsRightAt codes assigned marked i y → IsRightAt (set codes x code) assigned marked i y
  right_bring i y propagated was is =
      elim (cases_eq y x) [
        | inl e ↦
            let is' : (d : Assigned) → negation_of (get_or assigned i d).lit ≡ literal_of code = λ d. is d ∙ (ap (watched (set codes x code)) e ∙ new_at) in
            absurd (free (false_from assigned (literal_of code) i propagated is'))
        | inr ne ↦ elim (was (λ d. is d ∙ same_at y ne)) [
          | inl m ↦ inl m
          | inr c ↦ elim (cases_eq (twin y) x) [
            | inl e ↦
                let gone_true : (d : Assigned) → (get_or assigned c.place d).lit ≡ watched codes x = λ d. c.true_there d ∙ ap (watched codes) e in
                absurd (consistent (watched codes x) gone (true_false assigned (watched codes x) c.place c.in_range gone_true))
            | inr other ↦ inr (record { place = c.place; in_range = c.in_range; true_there = λ d. c.true_there d ∙ sym (same_at (twin y) other); low = c.low })
          ]
        ]
      ]

-- the consequences of one more literal are propagated
pub right_propagated : (codes : List ℕ) (assigned : List Assigned) (marked : List Bool) (propagated : ℕ) → IsWatchedRight codes assigned marked propagated → ((x : ℕ) → x < length codes → IsRightAt codes assigned marked propagated x) → IsWatchedRight codes assigned marked (propagated + 1)
right_propagated codes assigned marked propagated was here i x h in' =
    elim (cases_eq i propagated) [
      | inl e ↦ subst (λ (k : ℕ). IsRightAt codes assigned marked k x) (sym e) (here x in')
      | inr ne ↦ was i x (omega arith) in'
    ]

-- a cut at the boundary of a level: those that stay are at most of this level, and those that go are above it
pub right_cut : (codes : List ℕ) (assigned : List Assigned) (marked : List Bool) (propagated count level : ℕ) → count ≤ length assigned → propagated ≤ length assigned → ((k : ℕ) (d : Assigned) → k < count → (get_or assigned k d).level ≤ level) → ((k : ℕ) (d : Assigned) → count ≤ k → k < length assigned → level < (get_or assigned k d).level) →
    IsWatchedRight codes assigned marked propagated → (now : ℕ) → now ≤ propagated → now ≤ count → IsWatchedRight codes (take count assigned) marked now
right_cut codes assigned marked propagated count level within low_propagated low high was now le le' i x h in' is =
    let at : (k : ℕ) (d : Assigned) → k < count → get_or (take count assigned) k d ≡ get_or assigned k d = λ k d h. get_or-take count assigned k d h in
    let here : i < count = omega arith in
    elim (was i x (omega arith) in' (λ d. sym (ap (λ (b : Assigned). negation_of b.lit) (at i d here)) ∙ is d)) [
      | inl m ↦ inl m
      | inr c ↦
          let stays : c.place < count = elim (cases_lt c.place count) [
            | inl lt ↦ lt
            | inr ge ↦
                let d : Assigned = record { lit = record { var = 0; positive = false }; level = 0; reason = None } in
                let up : level < (get_or assigned c.place d).level = high c.place d ge c.in_range in
                let down : (get_or assigned i d).level ≤ level = low i d here in
                let low' : (get_or assigned c.place d).level ≤ (get_or assigned i d).level = c.low d in
                absurd (omega arith)
          ] in
          inr (record {
            place = c.place;
            in_range = omega (arith, length-take count assigned, stays, within);
            true_there = λ d. ap (λ (b : Assigned). b.lit) (at c.place d stays) ∙ c.true_there d;
            low = λ d. let p : (get_or (take count assigned) c.place d).level ≡ (get_or assigned c.place d).level = ap (λ (b : Assigned). b.level) (at c.place d stays) in
                let q : (get_or (take count assigned) i d).level ≡ (get_or assigned i d).level = ap (λ (b : Assigned). b.level) (at i d here) in
                let low' : (get_or assigned c.place d).level ≤ (get_or assigned i d).level = c.low d in
                omega arith;
          })
    ]
