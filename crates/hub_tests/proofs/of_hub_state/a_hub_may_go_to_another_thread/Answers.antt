use denote.Param.Send.{sendable}
use Rattle.std.proofs.Crossing
use Rattle.hub_state.proofs.ThreadCrossing.{hub_send}
use Rattle.hub_tests.proofs.of_hub_state.a_hub_may_go_to_another_thread.Goals as goal

pub crossing-hub-requires-send-T : goal.crossing-hub-requires-send-T
crossing-hub-requires-send-T c κs = search (hub_send, Crossing.crosses, sendable) depth 20 fits 20000
