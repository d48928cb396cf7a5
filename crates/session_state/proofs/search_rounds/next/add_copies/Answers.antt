use Rattle.std.proofs.Common.{◌≡◌, ℕ, List, ◌++◌, ◌∷◌, [], sym, ◌∙◌, ap}
use Rattle.session_state.proofs.Rounds.AddedElements.{added}
use Rattle.session_state.proofs.search_rounds.next.add_copies.Goals as goal

pub loop-scenario-preserved : goal.loop-scenario-preserved
loop-scenario-preserved c =
    let xs = c.args.scenarios.now in
    let i = c.loop-scenario.scenario-index in
    let s : List ℕ = c.scenario-item.result in
    c.in_ok-push.ensures.items ∙ ap (λ y. c.loop-scenario.all.items ++ y ∷ []) c.in_ok-copy.ensures
    ∙ added xs i s c.loop-scenario-test.true c.scenario-item.is c.args.all.now.items c.loop-scenario.all.items c.loop-scenario.invariant
