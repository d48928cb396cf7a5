use Rattle.hub_state.proofs.Journal.Replays.{one_replay}
use Rattle.hub_state.proofs.journal_rules.laws.a_session_has_one_replay.Goals as goal

pub returns : goal.returns
returns c = one_replay
