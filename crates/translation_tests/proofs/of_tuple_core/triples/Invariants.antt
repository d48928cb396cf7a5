use Rattle.std.proofs.Common.{◌≡◌}
use Rattle.translation_tests.proofs.of_tuple_core.triples.Given as goal

abbrev pub invariant-loop-triple : goal.invariant-loop-triple
invariant-loop-triple l = l.set.arity ≡ 3
