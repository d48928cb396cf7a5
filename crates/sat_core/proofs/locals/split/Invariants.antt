use Rattle.std.proofs.Common.{take, All}
use Rattle.cnf_core.specs.Literal.{IsVariable}
use Rattle.sat_core.specs.Assuming.{IsSplit}
use Rattle.sat_core.proofs.locals.split.Given as goal

abbrev pub invariant-loop-i : goal.invariant-loop-i
invariant-loop-i l = record {
  split : IsSplit (take l.i l.local) l.assumed.items l.others.items l.places.items;
  vars : All (λ x. IsVariable x.var) l.assumed.items;
}
