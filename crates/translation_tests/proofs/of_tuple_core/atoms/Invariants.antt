use Rattle.std.proofs.Common.{◌≡◌}
use Rattle.translation_tests.proofs.of_tuple_core.atoms.Given as goal

abbrev pub invariant-loop-place : goal.invariant-loop-place
invariant-loop-place l = l.set.arity ≡ 1
