-- What the rule of watched literals gives, and what keeps it.
use Rattle.std.proofs.Common.{◌≡◌, ◌<◌, ◌+◌, ◌*◌, ◌/◌, ◌%◌, [], ◌⊎◌, ℕ, Bool, true, false, List, length, get_or, arith, sym, ◌∙◌, inl, inr, refl, subst}
use Rattle.std.proofs.lemmas.List.Elements.{All-contains}
use Rattle.std.specs.List.{Contains}
use Rattle.cnf_core.specs.declared.literal.Lit.{Lit}
use Rattle.cnf_core.specs.Literal.{negation_of}
use Rattle.refutation_check.specs.Chain.{IsFalsified, IsUnit}
use Rattle.refutation_check.proofs.Entailment.{lit_equal_or_not}
use Rattle.unit_propagation.proofs.Assignments.Trails.{from_falses, true_false}
use Rattle.unit_propagation.specs.declared.assignment_trail.assigned.Assigned.{Assigned}
use Rattle.unit_propagation.specs.Assignments.Trail.{falses_of}
use Rattle.unit_propagation.specs.Assignments.AssignmentState.{IsConsistent}
use Rattle.unit_propagation.specs.Propagation.Closed.{IsClosedBut}
use Rattle.unit_propagation.specs.Propagation.Rule.{twin, watched, IsMarked, IsWatchedRight, IsWatching, AreWatched}

two_even : (n : ℕ) → (2 * n) % 2 ≡ 0
two_even n = omega arith

two_odd : (n : ℕ) → (2 * n + 1) % 2 ≡ 1
two_odd n = omega arith

module _ (clauses : List (List Lit)) (codes : List ℕ) (assigned : List Assigned) (marked : List Bool) (consistent : IsConsistent (falses_of assigned)) (right : IsWatchedRight codes assigned marked (length assigned)) (long : length codes ≡ 2 * length clauses) where
  -- a watched literal that is false has the other one true
  other_true : (n x : ℕ) → x / 2 ≡ n → x < length codes → (IsMarked marked n → ⊥) → Contains (falses_of assigned) (watched codes x) → Contains (falses_of assigned) (negation_of (watched codes (twin x)))
  other_true n x of in' unmarked h =
      let at = from_falses assigned (watched codes x) h in
      elim (right at.0 x at.1 in' at.2) [
        | inl m ↦ absurd (unmarked (subst (IsMarked marked) of m))
        | inr covered ↦ true_false assigned (watched codes (twin x)) covered.place covered.in_range covered.true_there
      ]

  module _ (n : ℕ) (in_clauses : n < length clauses) (unmarked : IsMarked marked n → ⊥) (watching : IsWatching clauses codes n) where
    twin_a : twin (2 * n) ≡ 2 * n + 1
    twin_a = rw (two_even n)

    twin_b : twin (2 * n + 1) ≡ 2 * n
    twin_b = rw (two_odd n) (omega arith)

    false_a : Contains (falses_of assigned) (watched codes (2 * n)) → Contains (falses_of assigned) (negation_of (watched codes (2 * n + 1)))
    false_a h = subst (λ (x : ℕ). Contains (falses_of assigned) (negation_of (watched codes x))) twin_a (other_true n (2 * n) (omega arith) (omega (arith, long)) unmarked h)

    false_b : Contains (falses_of assigned) (watched codes (2 * n + 1)) → Contains (falses_of assigned) (negation_of (watched codes (2 * n)))
    false_b h = subst (λ (x : ℕ). Contains (falses_of assigned) (negation_of (watched codes x))) twin_b (other_true n (2 * n + 1) (omega arith) (omega (arith, long)) unmarked h)

    pub not_falsified : IsFalsified (Contains (falses_of assigned)) (get_or clauses n []) → ⊥
    not_falsified all =
        let here = All-contains (Contains (falses_of assigned)) (get_or clauses n []) (watched codes (2 * n)) all watching.first in
        let there = All-contains (Contains (falses_of assigned)) (get_or clauses n []) (watched codes (2 * n + 1)) all watching.second in
        consistent (watched codes (2 * n + 1)) there (false_a here)

    pub not_unit : (l : Lit) → IsUnit (Contains (falses_of assigned)) (get_or clauses n []) l → ⊥
    not_unit l unit =
        elim (lit_equal_or_not (watched codes (2 * n)) l) [
          | inl is ↦
              let b_false = unit.others (watched codes (2 * n + 1)) watching.second (λ e. watching.differ (is ∙ sym e)) in
              unit.not_true (subst (λ (k : Lit). Contains (falses_of assigned) (negation_of k)) is (false_b b_false))
          | inr ne ↦
              let a_false = unit.others (watched codes (2 * n)) watching.first ne in
              let b_true = false_a a_false in
              elim (lit_equal_or_not (watched codes (2 * n + 1)) l) [
                | inl is ↦ unit.not_true (subst (λ (k : Lit). Contains (falses_of assigned) (negation_of k)) is b_true)
                | inr ne' ↦ consistent (watched codes (2 * n + 1)) (unit.others (watched codes (2 * n + 1)) watching.second ne') b_true
              ]
        ]

bool_cases : (b : Bool) → (b ≡ true) ⊎ (b ≡ true → ⊥)
bool_cases true = inl refl
bool_cases false = inr (λ e. cc)

-- where all consequences are propagated, no clause but a marked one is falsified, and none is a unit with its literal open
pub closed_but : (clauses : List (List Lit)) (codes : List ℕ) (assigned : List Assigned) (marked : List Bool) → IsConsistent (falses_of assigned) → IsWatchedRight codes assigned marked (length assigned) → length codes ≡ 2 * length clauses → AreWatched clauses codes marked → IsClosedBut clauses (falses_of assigned) marked
closed_but clauses codes assigned marked consistent right long are n h =
    elim (bool_cases (get_or marked n false)) [
      | inl m ↦ inl m
      | inr unmarked ↦ elim (are n h) [
        | inl short ↦ inl short.flagged
        | inr watching ↦ inr (
          not_falsified clauses codes assigned marked consistent right long n h unmarked watching,
          not_unit clauses codes assigned marked consistent right long n h unmarked watching,
        )
      ]
    ]
