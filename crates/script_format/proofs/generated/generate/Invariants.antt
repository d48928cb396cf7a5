use Rattle.std.proofs.Common.{◌≡◌, ◌++◌, ◌+◌, ◌%◌}
use Rattle.script_format.specs.Generated.{models_text, sessions_text}
use Rattle.script_format.proofs.generated.generate.Given as goal

abbrev pub invariant-loop-place : goal.invariant-loop-place
invariant-loop-place l = l.out.items ≡ models_text (3 + l.number % 6) ++ sessions_text l.place
