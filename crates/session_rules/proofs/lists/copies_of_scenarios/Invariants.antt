use Rattle.std.proofs.Common.{◌≡◌, take}
use Rattle.session_rules.proofs.lists.copies_of_scenarios.Given as goal

abbrev pub invariant-loop-scenario : goal.invariant-loop-scenario
invariant-loop-scenario l = l.copies.items ≡ take l.scenario-index l.scenarios
