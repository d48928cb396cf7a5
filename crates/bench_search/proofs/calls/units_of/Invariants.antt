use Rattle.std.proofs.Common.{◌≤◌, All, length}
use Rattle.cnf_core.specs.Literal.{HasVarsUpTo}
use Rattle.bench_search.proofs.calls.units_of.Given as goal

abbrev pub invariant-loop-place : goal.invariant-loop-place
invariant-loop-place l = record { few : length l.units.items ≤ l.place; vars : All (HasVarsUpTo l.vars) l.units.items }
