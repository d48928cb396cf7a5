use Rattle.std.proofs.Common.{take}
use Rattle.tuple_core.specs.Rows.{IsSetOf}
use Rattle.rel_formula.specs.Instance.{InSome}
use Rattle.rel_formula.specs.Tables.{values_of}
use Rattle.rel_formula.proofs.tables.universe.Given as goal

abbrev pub invariant-loop-top : goal.invariant-loop-top
invariant-loop-top l = IsSetOf l.universe 1 (InSome (take l.top-index l.tops) (values_of l.tables))
