-- Which verdict is that on a log.
use Rattle.std.specs.Prelude.{◌≡◌, ◌<◌, ◌≤◌, ◌-◌, [], ℕ, List, Some, length, take, slice_get, slice_index_or}
use Rattle.cnf_core.specs.declared.literal.Lit.{Lit}
use Rattle.refutation_check.specs.declared.log.Step.{Step}
use Rattle.refutation_check.specs.declared.refutation.Verdict.{Verdict}
use Rattle.refutation_check.specs.declared.refutation.Verdict.TheVariants.{Accepted, Refused, NoEmptyClause}
use Rattle.refutation_check.specs.Chain.{Reaches, Forces, Refutes, members_of, IsAccepted, IsRefutation, EndsEmpty}

-- a step without hints fails at 0; any other fails first at the hint, from 1, before which all hints force literals, and
-- which forces none, or, if it is the last one, names no clause with all literals false
pub record FailsAt (members : List (List Lit)) (clause : List Lit) (hints : List ℕ) (hint : ℕ) : Type 0 where
  pub no_hints : hint ≡ 0 → hints ≡ []
  pub in_range : hint ≤ length hints
  pub after : List Lit
  pub reached : Reaches members clause (take (hint - 1) hints) after
  pub not_forced : 1 ≤ hint → hint < length hints → (l : Lit) → ¬ Forces members after (slice_index_or hints (hint - 1) 0) l
  pub not_refuted : 1 ≤ hint → hint ≡ length hints → ¬ Refutes members after (slice_index_or hints (hint - 1) 0)

-- the steps before this one, from 1, are chains, and it fails first at this hint
pub record FailsFirst (clauses : List (List Lit)) (steps : List Step) (step hint : ℕ) : Type 0 where
  pub from_one : 1 ≤ step
  pub failing : Step
  pub there : slice_get steps (step - 1) ≡ Some failing
  pub earlier : IsAccepted clauses (take (step - 1) steps)
  pub fails : FailsAt (members_of clauses (take (step - 1) steps)) failing.clause failing.hints hint

-- the verdict is right of the log
abbrev pub Fits : List (List Lit) → List Step → Verdict → Type 0
Fits clauses steps Accepted = IsRefutation clauses steps
Fits clauses steps (Refused step hint) = FailsFirst clauses steps step hint
Fits clauses steps NoEmptyClause = IsAccepted clauses steps × ¬ EndsEmpty steps
