use Rattle.std.proofs.Common.{take}
use Rattle.session_state.specs.Rounds.Held.{IsHeldAt}
use Rattle.crew_run.proofs.round.block_behind.Given as goal

abbrev pub invariant-loop-at : goal.invariant-loop-at
invariant-loop-at l = IsHeldAt l.translation l.pool l.floor (take l.at l.told) l.search
