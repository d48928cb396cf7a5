use Rattle.std.proofs.Common.{take}
use Rattle.tuple_core.specs.Rows.{IsSetOf}
use Rattle.rel_formula.specs.Instance.{InSome}
use Rattle.rel_terms.specs.Upper.{InUpperSet}
use Rattle.rel_terms.proofs.formula.universe.Given as goal

abbrev pub invariant-loop-top : goal.invariant-loop-top
invariant-loop-top l = IsSetOf l.universe 1 (InSome (take l.top-index l.top-items) (InUpperSet l.problem))
