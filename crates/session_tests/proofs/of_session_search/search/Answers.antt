use Rattle.std.proofs.Common.{length, sym, subst, ap, arith}
use Rattle.session_rules.specs.States.{State}
use Rattle.session_state.specs.Sessions.Fits.{FitsProblem, InSession}
use Rattle.session_state.specs.Sessions.Proposed.{IsProposal}
use Rattle.session_state.proofs.Sessions.LaterSessions.{fits_still, one_more_shown}
use Rattle.session_tests.proofs.of_session_search.search.Goals as goal

pub returns-clause-fits : goal.returns-clause-fits
returns-clause-fits c =
    let t = c.args.made.now in
    let same = sym c.in_ok-proposal.ensures.same in
    let before = subst (λ (x : InSession). FitsProblem t.problem x.kept) same c.requires.fits in
    let fits = fits_still t.problem c.propose.new.self.kept c.reserve.new.self.kept c.reserve.ensures.state c.reserve.ensures.copies before in
    let asked = subst (λ (x : InSession). IsProposal t c.new-pool.result x.kept.state c.args.step c.in_ok-proposal.proposal) same (c.in_ok-proposal.ensures.proposal c.requires.step) in
    c.apply.ensures.fits t c.new-pool.result c.args.step fits
    (subst (λ (s : State). IsProposal t c.new-pool.result s c.args.step c.in_ok-proposal.proposal) (sym c.reserve.ensures.state) asked)

pub returns-clause-few : goal.returns-clause-few
returns-clause-few c =
    let more = one_more_shown c.reserve.new.self.kept.state c.in_ok-proposal.proposal.reply in
    let now = ap (λ (s : State). length s.shown) c.apply.ensures.state in
    let was = ap (λ (s : State). length s.shown) c.reserve.ensures.state in
    let same = ap (λ (s : InSession). length s.kept.state.shown) c.in_ok-proposal.ensures.same in
    omega arith
