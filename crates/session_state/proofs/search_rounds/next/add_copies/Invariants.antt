use Rattle.std.proofs.Common.{◌≡◌, ◌++◌, take}
use Rattle.session_state.proofs.search_rounds.next.add_copies.Given as goal

abbrev pub invariant-loop-scenario : goal.invariant-loop-scenario
invariant-loop-scenario l = l.all.items ≡ l.fn.all.items ++ take l.scenario-index l.scenarios
