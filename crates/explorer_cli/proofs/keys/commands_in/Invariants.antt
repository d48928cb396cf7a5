use Rattle.std.proofs.Common.{◌≡◌, length, take}
use Rattle.explorer_cli.specs.Keys.{problems_of}
use Rattle.explorer_cli.proofs.keys.commands_in.Given as goal

abbrev pub invariant-loop-made : goal.invariant-loop-made
invariant-loop-made l = l.count ≡ length (problems_of (take l.made-index l.models))
