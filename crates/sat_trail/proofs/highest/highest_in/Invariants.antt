use Rattle.std.proofs.Common.{◌≤◌, ℕ, take}
use Rattle.cnf_core.specs.Literal.{HasVarsUpTo}
use Rattle.sat_trail.proofs.highest.highest_in.Given as goal

abbrev pub invariant-loop-lit : goal.invariant-loop-lit
invariant-loop-lit l = record {
  at_least : l.given ≤ l.highest;
  within : HasVarsUpTo l.highest (take l.lit-index l.lits);
  least : (n : ℕ) → l.given ≤ n → HasVarsUpTo n l.lits → l.highest ≤ n;
}
