use Rattle.std.proofs.Common.{All}
use Rattle.rel_formula.specs.Instance.{AreCells}
use Rattle.lowering_tests.proofs.of_renaming_classes.instances.Given as goal

abbrev pub invariant-loop-numbers : goal.invariant-loop-numbers
invariant-loop-numbers l = All (AreCells l.problem) l.all.items
