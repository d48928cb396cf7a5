use Rattle.std.proofs.Common.{◌≢◌, All, take}
use Rattle.session_state.proofs.session_store.floors.proof_at.Given as goal

abbrev pub invariant-loop-one : goal.invariant-loop-one
invariant-loop-one l = All (λ x. x.floor ≢ l.floor) (take l.one-index l.ended)
