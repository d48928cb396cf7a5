use Rattle.std.proofs.Common.{arith}
use Rattle.std.proofs.lemmas.Result.{IfOk-weaker}
use Rattle.session_state.specs.Rounds.Resting.{CanGoOn}
use Rattle.session_state.proofs.Rounds.RestingTrails.{can_keep_more}
use Rattle.session_state.proofs.search_rounds.trails.KeptTrails.woken.Goals as goal

pub returns-in-None-clause-trails : goal.returns-in-None-clause-trails
returns-in-None-clause-trails c =
    let f = c.args.translation.now.cnf in
    let local = c.args.local.now in
    let pool = c.args.pool.now in
    IfOk-weaker c.begun.result (CanGoOn f local pool 0) _ (can_keep_more f local pool 0 c.args.most (omega arith)) c.begun.ensures
