use Rattle.std.proofs.Common.{◌≡◌, ◌++◌, length}
use Rattle.explorer_cli.specs.Keys.{problems_in}
use Rattle.explorer_cli.proofs.keys.put_in_front.Given as goal

abbrev pub invariant-loop-command : goal.invariant-loop-command
invariant-loop-command l = problems_in l.made ++ l.problems.items ≡ problems_in l.fn.made ++ l.fn.problems.items

abbrev pub decreases-loop-command : goal.decreases-loop-command
decreases-loop-command l = length l.made.items
