use Rattle.std.proofs.Common.{◌≡◌, ℕ, [], ap, subst}
use Rattle.session_rules.specs.States.{Start}
use Rattle.session_state.specs.Sessions.Fits.{InSession}
use Rattle.session_turns.proofs.SessionStart.{may_open, seated_at_start}
use Rattle.session_turns.proofs.SoFar.{just_opened}
use Rattle.session_turns.proofs.opening.open_session.Goals as goal

pub record_opening-requires-clause-may : goal.record_opening-requires-clause-may
record_opening-requires-clause-may g c = may_open c.what_was_published_stands.ensures c.args.lock.now c.args.pass.now c.requires.idle c.requires.none c.args.key c.args.budget c.requires.published

pub returns-clause-seated : goal.returns-clause-seated
returns-clause-seated g c t there =
    seated_at_start c.what_was_published_stands.ensures c.args.lock.now c.args.pass.now c.requires.idle c.requires.none c.args.key c.args.budget c.record_opening.new.pass t c.in_ok-session.session c.record_opening.ensures.goes c.in_ok-record_opening.ensures.ok there
    (subst (λ (n : ℕ). c.in_ok-session.session ≡ record { owner = n; key = c.args.key; kept = record { state = Start c.args.budget; copies = []; room = 0 } }) c.number.ensures c.in_ok-session.ensures.start) (c.in_ok-session.ensures.fits t.problem)

pub returns-clause-opened : goal.returns-clause-opened
returns-clause-opened g c =
    let start = c.in_ok-session.ensures.start in
    just_opened c.args.lock.now c.args.pass.now c.record_opening.new.pass c.in_ok-session.session c.args.key c.args.budget c.requires.none c.record_opening.ensures.goes c.in_ok-record_opening.ensures.ok
    (ap (λ (x : InSession). x.key) start) (ap (λ (x : InSession). x.kept.state) start)
