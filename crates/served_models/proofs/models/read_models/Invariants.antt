use Rattle.std.proofs.Common.{take}
use Rattle.served_models.specs.Served.{AreUsed}
use Rattle.served_models.proofs.models.read_models.Given as goal

abbrev pub invariant-loop-place : goal.invariant-loop-place
invariant-loop-place l = AreUsed l.purpose l.sessions (take l.place l.entries) l.models.items
