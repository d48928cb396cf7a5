use Rattle.std.proofs.Common.{◌≡◌, length, All}
use Rattle.hub_tests.proofs.Restating.{Restates, AllRestate}
use Rattle.hub_tests.proofs.of_hub_state.restated.Given as goal

abbrev pub invariant-loop-made : goal.invariant-loop-made
invariant-loop-made l = AllRestate l.first l.log l.made
