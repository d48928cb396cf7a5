use Rattle.std.proofs.Common.{take}
use Rattle.session_state.specs.Sessions.Listed.{AreInOrder}
use Rattle.session_state.proofs.session_search.listing.in_order.Given as goal

abbrev pub invariant-loop-scenario : goal.invariant-loop-scenario
invariant-loop-scenario l = AreInOrder (take l.scenario-index l.scenarios) l.listed.items
