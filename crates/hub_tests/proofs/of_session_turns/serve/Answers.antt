use Rattle.std.proofs.Common.{arith}
use Rattle.hub_turns.proofs.Onward.{went_then}
use Rattle.hub_tests.proofs.of_session_turns.serve.Goals as goal

pub open_session-requires-clause-published : goal.open_session-requires-clause-published
open_session-requires-clause-published g c = (c.args.t.now, c.requires.published)

pub command-next-requires-clause-seated : goal.command-next-requires-clause-seated
command-next-requires-clause-seated g c = (0, c.in_ok-session.ensures.seated c.args.t.now c.requires.published, omega arith)

pub command-all-requires-clause-seated : goal.command-all-requires-clause-seated
command-all-requires-clause-seated g c = (1, c.command-next.ensures.seated 0 (c.in_ok-session.ensures.seated c.args.t.now c.requires.published), omega arith)

pub command-proof-requires-clause-seated : goal.command-proof-requires-clause-seated
command-proof-requires-clause-seated g c =
    (4, c.command-all.ensures.seated 1 (c.command-next.ensures.seated 0 (c.in_ok-session.ensures.seated c.args.t.now c.requires.published)), omega arith)

pub command-budget-requires-clause-seated : goal.command-budget-requires-clause-seated
command-budget-requires-clause-seated g c =
    (4, c.command-proof.ensures.seated 4 (c.command-all.ensures.seated 1 (c.command-next.ensures.seated 0 (c.in_ok-session.ensures.seated c.args.t.now c.requires.published))), omega arith)

pub returns : goal.returns
returns g c =
    let lock = c.args.lock.now in
    let p = c.args.pass.now in
    let opened = c.open_session.new.pass in
    let next = c.command-next.new.pass in
    let all = c.command-all.new.pass in
    let proof = c.command-proof.new.pass in
    record { goes = went_then lock p proof c.command-budget.new.pass (went_then lock p all proof (went_then lock p next all (went_then lock p opened next c.in_ok-session.ensures.goes c.command-next.ensures.goes) c.command-all.ensures.goes) c.command-proof.ensures.goes) c.command-budget.ensures.goes }
