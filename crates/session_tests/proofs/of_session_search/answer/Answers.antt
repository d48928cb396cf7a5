use Rattle.std.proofs.Common.{length, sym, subst, ap, arith}
use Rattle.session_rules.specs.States.{State}
use Rattle.session_state.specs.Sessions.Fits.{FitsProblem, InSession}
use Rattle.session_state.specs.Sessions.Proposed.{IsPlainProposal}
use Rattle.session_state.proofs.Sessions.LaterSessions.{fits_still, one_more_shown}
use Rattle.session_tests.proofs.of_session_search.answer.Goals as goal

pub returns-clause-fits : goal.returns-clause-fits
returns-clause-fits c =
    let p = c.args.made.now.problem in
    let same = sym c.in_ok-proposal.ensures.same in
    let before = subst (λ (x : InSession). FitsProblem p x.kept) same c.requires.fits in
    let fits = fits_still p c.propose.new.self.kept c.reserve.new.self.kept c.reserve.ensures.state c.reserve.ensures.copies before in
    let answered = subst (λ (x : InSession). IsPlainProposal x.kept.state c.args.step c.in_ok-proposal.proposal) same (c.in_ok-proposal.ensures.plain c.requires.step) in
    c.apply.ensures.plain p c.args.step fits (subst (λ (s : State). IsPlainProposal s c.args.step c.in_ok-proposal.proposal) (sym c.reserve.ensures.state) answered)

pub returns-clause-few : goal.returns-clause-few
returns-clause-few c =
    let more = one_more_shown c.reserve.new.self.kept.state c.in_ok-proposal.proposal.reply in
    let now = ap (λ (s : State). length s.shown) c.apply.ensures.state in
    let was = ap (λ (s : State). length s.shown) c.reserve.ensures.state in
    let same = ap (λ (s : InSession). length s.kept.state.shown) c.in_ok-proposal.ensures.same in
    omega arith
