use Rattle.std.proofs.Common.{◌≤◌, ℕ, List, length, subst, arith}
use Rattle.std.proofs.lemmas.List.{take_all}
use Rattle.session_state.specs.Rounds.Held.{IsHeldAt}
use Rattle.crew_run.proofs.round.block_behind.Goals as goal

pub returns : goal.returns
returns c =
    let told : List (List ℕ) = c.args.told.now in
    let all : length told ≤ c.loop-at.at = omega arith in
    subst (λ (ts : List (List ℕ)). IsHeldAt c.args.translation.now c.args.pool.now c.args.floor.now ts c.loop-at.search) (take_all c.loop-at.at told all) c.loop-at.invariant
