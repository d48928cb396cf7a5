use Rattle.std.proofs.Common.{◌≡◌, ◌++◌, [], take, All}
use Rattle.cnf_core.specs.Literal.{HasVarsUpTo}
use Rattle.refutation_check.specs.Chain.{members_of}
use Rattle.sat_core.proofs.search.last_step.Given as goal

abbrev pub invariant-loop-step : goal.invariant-loop-step
invariant-loop-step l = record {
  clauses : l.trail.clauses ≡ members_of (members_of (l.f.clauses ++ l.local) l.pool) (take l.step-index l.log);
  within : All (HasVarsUpTo l.trail.vars) (members_of (l.f.clauses ++ l.local) l.pool);
  assigned : l.trail.assigned ≡ [];
}
