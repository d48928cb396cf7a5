use Rattle.std.proofs.Common.{inl, inr, refl, sym, ◌∙◌, ap, subst}
use Rattle.session_rules.specs.States.{State, after}
use Rattle.session_state.specs.Sessions.Proposed.{IsProposal}
use Rattle.session_turns.proofs.Stepping.{fits_still}
use Rattle.session_turns.proofs.settling.settle.Goals as goal

pub returns-in-Ok-clause-settled : goal.returns-in-Ok-clause-settled
returns-in-Ok-clause-settled g c = inr (c.in-Ok.ensures.reply, c.in-Ok.ensures.added, c.apply.ensures.state ∙ ap (λ (s : State). after s c.args.proposal.reply) c.recorded.ensures.state)

pub returns-in-Ok-clause-fits : goal.returns-in-Ok-clause-fits
returns-in-Ok-clause-fits g c t fits has =
    c.apply.ensures.fits t has.pool c.args.step.now (fits_still t.problem c.args.session.now.kept c.recorded.new.session.kept c.recorded.ensures.state c.recorded.ensures.copies fits)
    (subst (λ (s : State). IsProposal t has.pool s c.args.step.now c.args.proposal) (sym c.recorded.ensures.state) has.proposal)

pub returns-in-Err-clause-settled : goal.returns-in-Err-clause-settled
returns-in-Err-clause-settled g c = inl (refl, c.in-Err.ensures.err, c.recorded.ensures.state)

pub returns-in-Err-clause-fits : goal.returns-in-Err-clause-fits
returns-in-Err-clause-fits g c t fits has = fits_still t.problem c.args.session.now.kept c.recorded.new.session.kept c.recorded.ensures.state c.recorded.ensures.copies fits
