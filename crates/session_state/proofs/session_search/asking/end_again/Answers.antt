use Rattle.std.proofs.Common.{length, sym, ap, subst}
use Rattle.session_words.specs.declared.steps.Step.TheVariants.{Next}
use Rattle.session_rules.specs.States.{HasEndedWith}
use Rattle.session_state.specs.Sessions.Proposed.{Proposed, IsProposal}
use Rattle.session_state.proofs.Sessions.IdleReplies.{ended_again}
use Rattle.session_state.proofs.session_search.asking.end_again.Goals as goal

pub returns-clause-proposal : goal.returns-clause-proposal
returns-clause-proposal c = λ t pool s here was.
    subst (IsProposal t pool s Next) (sym c.at_once.ensures)
    (ended_again t pool s (length c.args.shown.now) c.in_ok-proof.proof c.nothing_done_is_work.ensures (ap length (sym here)) (subst (HasEndedWith s) (sym c.in_ok-proof.ensures) was))

pub returns-clause-none : goal.returns-clause-none
returns-clause-none c = ap (λ (p : Proposed). p.copies) c.at_once.ensures
