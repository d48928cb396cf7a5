use Rattle.std.proofs.Common.{List, refl, sym, subst}
use Rattle.refutation_check.specs.declared.log.Step.{Step as LogStep}
use Rattle.hub_state.specs.Journal.Journal.{pool_of}
use Rattle.session_turns.specs.Seated.{BeginsPool}
use Rattle.session_turns.proofs.commands.command.Goals as goal

pub answer-requires-clause-begins : goal.answer-requires-clause-begins
answer-requires-clause-begins g c =
    let p = c.args.pass.now in
    let x = c.args.session.now in
    subst (λ (xs : List LogStep). BeginsPool xs p x) (sym c.new-pool.ensures) (pool_of x.key p.view.seen, refl)
