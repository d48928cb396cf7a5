-- What a look at a clause leads to.
use Rattle.std.proofs.Common.{◌≡◌, ◌<◌, ◌≤◌, ◌+◌, ◌-◌, [], ℕ, Bool, Some, List, length, get_or, All, arith, sym, inl, inr, subst, below_more}
use Rattle.std.proofs.lemmas.List.Elements.{All-contains}
use Rattle.std.specs.List.{Contains, slice_get}
use Rattle.cnf_core.specs.declared.literal.Lit.{Lit}
use Rattle.cnf_core.specs.Literal.{IsClause, IsVariable, HasVarsUpTo}
use Rattle.unit_propagation.specs.Clauses.Codes.{literals_of}
use Rattle.unit_propagation.specs.Watches.WatchState.{WatchState}
use Rattle.refutation_check.specs.Chain.{IsFalsified, IsUnit, Refutes}
use Rattle.unit_propagation.specs.declared.assignment_trail.assigned.Assigned.{Assigned}
use Rattle.unit_propagation.specs.Assignments.AssignmentState.{AssignmentState}
use Rattle.unit_propagation.specs.Assignments.Trail.{IsPlaced, IsVarUpTo, falses_of, level_of}
use Rattle.unit_propagation.specs.Propagation.PendingState.{IsMarkList}
use Rattle.unit_propagation.specs.Propagation.Walk.{IsReady}
use Rattle.unit_propagation.proofs.Propagation.MarkLists.{marked_in}
use Rattle.unit_propagation.proofs.Propagation.Slots.{clause_is}
use Rattle.sat_trail.specs.Rounds.{IsQuiet, IsFollowed}

module _ (clauses : List (List Lit)) (w : WatchState) (vars : ℕ) (assigned : List Assigned) (flags : List Bool) (propagated n : ℕ) (codes : List ℕ) (was : IsReady clauses w (record { vars = vars; assigned = assigned }) flags propagated) (each : All IsClause clauses) (in' : n < length clauses) (named : slice_get clauses ((n + 1) - 1) ≡ Some (literals_of codes)) where
  clause : get_or clauses n [] ≡ literals_of codes
  clause = clause_is clauses codes n named

  pub looked_clause : IsClause (literals_of codes)
  looked_clause = subst IsClause clause (each n [] in')

  pub looked_range : HasVarsUpTo vars (literals_of codes)
  looked_range = subst (HasVarsUpTo vars) clause (was.within n [] in')

  pub looked_falsified : IsFalsified (Contains (falses_of assigned)) (literals_of codes) → Refutes clauses (falses_of assigned) (n + 1)
  looked_falsified all = record { clause = literals_of codes; named = (omega arith, named); falsified = all }

  pub looked_quiet : (¬ IsFalsified (Contains (falses_of assigned)) (literals_of codes)) × ((l : Lit) → ¬ IsUnit (Contains (falses_of assigned)) (literals_of codes) l) → IsQuiet (falses_of assigned) (get_or clauses n [])
  looked_quiet quiet = subst (IsQuiet (falses_of assigned)) (sym clause) quiet

  pub looked_unit : (l : Lit) (level : ℕ) → IsUnit (Contains (falses_of assigned)) (literals_of codes) l → level ≡ level_of assigned → IsPlaced clauses assigned (record { lit = l; level = level; reason = Some (n + 1) }) × IsVarUpTo vars (record { lit = l; level = level; reason = Some (n + 1) })
  looked_unit l level unit level_is =
      let var : IsVariable l.var = All-contains (λ (k : Lit). IsVariable k.var) (literals_of codes) l looked_clause.variables unit.member in
      let low : l.var ≤ vars = All-contains (λ (k : Lit). k.var ≤ vars) (literals_of codes) l looked_range unit.member in
      ((record { clause = literals_of codes; named = (omega arith, named); unit = unit }, level_is), (var.0, low))

-- a marked clause is one of the store
pub listed_in : (flags : List Bool) (list : List ℕ) (k x n : ℕ) → IsMarkList flags list → k < length list → x ≡ get_or list k 0 → length flags ≡ n → x < n
listed_in flags list k x n marks h is long =
    let in' : get_or list k 0 < length flags = marked_in flags (get_or list k 0) (marks.only k 0 h) in
    omega (arith, in', is, long)

-- one marked clause more was looked at
pub quiet_more : (clauses : List (List Lit)) (first old new : AssignmentState) (list : List ℕ) (i : ℕ) → length first.assigned ≤ length old.assigned → IsFollowed clauses old new (get_or list i 0) →
    (length old.assigned ≡ length first.assigned → (k : ℕ) → k < i → IsQuiet (falses_of old.assigned) (get_or clauses (get_or list k 0) [])) →
    length new.assigned ≡ length first.assigned → (k : ℕ) → k < i + 1 → IsQuiet (falses_of new.assigned) (get_or clauses (get_or list k 0) [])
quiet_more clauses first old new list i long (inl grown) was is = absurd (omega (arith, grown, long, is))
quiet_more clauses first old new list i long (inr (same, here)) was is =
    let before : length old.assigned ≡ length first.assigned = subst (λ (a : AssignmentState). length a.assigned ≡ length first.assigned) same is in
    below_more (λ (k : ℕ). IsQuiet (falses_of new.assigned) (get_or clauses (get_or list k 0) [])) i
    (λ k h. subst (λ (a : AssignmentState). IsQuiet (falses_of a.assigned) (get_or clauses (get_or list k 0) [])) (sym same) (was before k h)) here
