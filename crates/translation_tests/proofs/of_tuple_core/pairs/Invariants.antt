use Rattle.std.proofs.Common.{◌≡◌}
use Rattle.translation_tests.proofs.of_tuple_core.pairs.Given as goal

abbrev pub invariant-loop-pair : goal.invariant-loop-pair
invariant-loop-pair l = l.set.arity ≡ 2
