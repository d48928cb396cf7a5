use Rattle.std.proofs.Common.{◌≤◌, ◌+◌, ◌-◌, subst, arith}
use Rattle.std.proofs.lemmas.Result.{IfOk-weaker}
use Rattle.refutation_check.specs.Part.{Parted}
use Rattle.session_state.specs.declared.search_rounds.round.RoundEnd.{RoundEnd}
use Rattle.session_state.specs.Rounds.Rounds.{left_in}
use Rattle.session_state.specs.Rounds.Descended.{DescendsTo}
use Rattle.session_state.specs.Rounds.Going.{kept_in}
use Rattle.session_state.proofs.Rounds.SearchedRounds.{left_with}
use Rattle.session_state.proofs.search_rounds.going.gone_down.Goals as goal

pub overflow_sub-left : goal.overflow_sub-left
overflow_sub-left c = let long = c.len.ensures in let most = c.requires.kept in omega arith

pub descended-requires-clause-start : goal.descended-requires-clause-start
descended-requires-clause-start c =
    let t = c.args.translation.now in
    left_with t.problem c.args.floor.now c.args.shown.now c.args.blocked.now c.args.start.now c.requires.shown c.requires.start

pub behind-requires-clause-room : goal.behind-requires-clause-room
behind-requires-clause-room c = let long = c.len.ensures in let most = c.requires.kept in omega arith

pub behind-requires-clause-down : goal.behind-requires-clause-down
behind-requires-clause-down c =
    let t = c.args.translation.now in
    subst (λ (p : Parted). DescendsTo t c.args.pool.now c.args.floor.now c.args.shown.now p c.args.start.now (c.args.budget - c.len.result) c.in_ok-end.end) c.requires.part c.in_ok-end.ensures.answer

pub returns-in_err-end-clause-spent : goal.returns-in_err-end-clause-spent
returns-in_err-end-clause-spent c =
    let long = c.len.ensures in
    let most = c.requires.kept in
    let so_far = c.in_err-end.ensures.spent in
    omega arith

pub returns : goal.returns
returns c =
    let End : RoundEnd → Type 0 = λ after. left_in after ≤ left_in c.in_ok-end.end + kept_in c.args.search.now after in
    let long = c.len.ensures in
    let most = c.requires.kept in
    let so_far = c.in_ok-end.ensures.spent in
    let over = c.in_ok-end.ensures.left in
    record {
      trail = IfOk-weaker c.behind.result End _ (λ after less. c.in_ok-end.ensures.trail) c.behind.ensures.left;
      parts = c.behind.ensures.parts;
      answer = c.behind.ensures.answer;
      stopped = c.behind.ensures.stopped;
      untold = c.behind.ensures.untold;
      spent = omega arith;
      left = IfOk-weaker c.behind.result End _ (λ after less. omega arith) c.behind.ensures.left;
    }
