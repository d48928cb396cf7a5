use Rattle.std.proofs.Common.{drop}
use Rattle.model_types.specs.Bounding.{through}
use Rattle.model_types.specs.Bounds.Same.{AreSame}
use Rattle.model_types.proofs.bounding_types.closure.through.Given as goal

abbrev pub invariant-loop-top : goal.invariant-loop-top
invariant-loop-top l = AreSame (through (drop l.top-index l.tops) l.all) (through l.tops l.fn.pairs)
