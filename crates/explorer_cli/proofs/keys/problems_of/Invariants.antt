use Rattle.std.proofs.Common.{◌≡◌, ◌++◌, length}
use Rattle.explorer_cli.specs.Keys.{problems_of}
use Rattle.explorer_cli.proofs.keys.problems_of.Given as goal

abbrev pub invariant-loop-made : goal.invariant-loop-made
invariant-loop-made l = problems_of l.models.items ++ l.problems.items ≡ problems_of l.fn.models.items

abbrev pub decreases-loop-made : goal.decreases-loop-made
decreases-loop-made l = length l.models.items
