use Rattle.std.proofs.Common.{take}
use Rattle.tuple_core.specs.Gains.{SomeGives}
use Rattle.tuple_core.specs.Rows.{SetGains}
use Rattle.tuple_core.proofs.Steps.{TurnsTo}
use Rattle.tuple_core.proofs.tuple_set.TupleSet.transpose.Given as goal

abbrev pub invariant-loop-row : goal.invariant-loop-row
invariant-loop-row l = SetGains l.initial.out l.out (SomeGives (take l.row-index l.row-items) TurnsTo)
