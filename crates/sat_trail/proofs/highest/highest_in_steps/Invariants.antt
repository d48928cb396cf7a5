use Rattle.std.proofs.Common.{◌≤◌, ◌<◌, ◌^◌, ℕ, All, take}
use Rattle.cnf_core.specs.Literal.{HasVarsUpTo}
use Rattle.sat_trail.proofs.highest.highest_in_steps.Given as goal

abbrev pub invariant-loop-step : goal.invariant-loop-step
invariant-loop-step l = record {
  at_least : l.given ≤ l.highest;
  within : All (λ s. HasVarsUpTo l.highest s.clause) (take l.step-index l.steps);
  least : (n : ℕ) → l.given ≤ n → All (λ s. HasVarsUpTo n s.clause) l.steps → l.highest ≤ n;
  small : l.highest < 2 ^ 31;
}
