use Rattle.std.proofs.Common.{take}
use Rattle.tuple_core.specs.Gains.{SomeGives}
use Rattle.tuple_core.specs.Rows.{SetGains}
use Rattle.rel_formula.proofs.Valued.{Doubles}
use Rattle.rel_terms.proofs.operators.identity.Given as goal

abbrev pub invariant-loop-row : goal.invariant-loop-row
invariant-loop-row l = SetGains l.initial.pairs l.pairs (SomeGives (take l.row-index l.row-items) Doubles)
