use Rattle.std.proofs.Common.{◌≤◌, ◌<◌, ◌^◌, ℕ, All, take}
use Rattle.cnf_core.specs.Literal.{HasVarsUpTo}
use Rattle.sat_trail.proofs.highest.highest_of.Given as goal

abbrev pub invariant-loop-clause : goal.invariant-loop-clause
invariant-loop-clause l = record {
  at_least : l.given ≤ l.highest;
  within : All (HasVarsUpTo l.highest) (take l.clause-index l.clauses);
  least : (n : ℕ) → l.given ≤ n → All (HasVarsUpTo n) l.clauses → l.highest ≤ n;
  small : l.highest < 2 ^ 31;
}
