use Rattle.std.proofs.Common.{◌+◌, inl, inr, refl, sym, ◌∙◌, ap, subst}
use Rattle.script_format.specs.Reading.{asks_step}
use Rattle.session_rules.specs.States.{top_floor}
use Rattle.session_rules.specs.declared.answers.Reply.{Reply}
use Rattle.session_state.specs.Sessions.Fits.{InSession, FitsProblem}
use Rattle.session_turns.specs.Serving.{IsOn, IsPrintable}
use Rattle.session_turns.proofs.Stepping.{printable, on_after, on_still}
use Rattle.session_turns.specs.Added.{HasProposed, HasSettled}
use Rattle.session_turns.specs.Seated.{BeginsPool}
use Rattle.hub_turns.proofs.Onward.{same_number, went_then}
use Rattle.session_turns.proofs.Turning.{begins_still}
use Rattle.session_turns.proofs.Answering.{may_record, answered_settled, answered_cut, shares_cut, shares_settled, seated_answered}
use Rattle.session_turns.proofs.steps.take_step.Goals as goal

pub settle-requires-clause-may : goal.settle-requires-clause-may
settle-requires-clause-may g c =
    let seated = c.requires.seated in
    may_record (c.memory_changes_nothing.ensures.run, c.memory_changes_nothing.ensures.state) c.args.lock.now c.args.translation.now c.args.pass.now c.proposed.new.pass c.args.session.now c.args.step.now c.in-Ok.proposal seated.idle seated.replay c.proposed.ensures.goes c.in-Ok.ensures.begun c.in-Ok.ensures.proposal

pub returns-in-Ok-clause-goes : goal.returns-in-Ok-clause-goes
returns-in-Ok-clause-goes g c = went_then c.args.lock.now c.args.pass.now c.proposed.new.pass c.settle.new.pass c.proposed.ensures.goes c.settle.ensures.goes

pub returns-in-Ok-clause-answered : goal.returns-in-Ok-clause-answered
returns-in-Ok-clause-answered g c =
    let a = c.args.pass.now in
    let b = c.proposed.new.pass in
    let x = c.args.session.now in
    let y = c.settle.new.session in
    let step = c.args.step.now in
    let proposal = c.in-Ok.proposal in
    let settled = subst (λ (s : InSession). HasSettled b c.settle.new.pass s y step proposal.reply c.settle.result) c.proposed.ensures.same c.settle.ensures.settled in
    answered_settled c.args.translation.now a b c.settle.new.pass x y step proposal.reply c.settle.result (same_number c.args.lock.now a b c.proposed.ensures.goes) c.in-Ok.ensures.begun settled c.in-Ok.ensures.proposal.proposal.may c.in-Ok.ensures.proposal.proposal.told

pub returns-in-Ok-clause-printable : goal.returns-in-Ok-clause-printable
returns-in-Ok-clause-printable g c =
    let t = c.args.translation.now in
    let s = c.args.session.now.kept.state in
    let on = c.requires.seated.on in
    let sound = c.a_run_is_sound.ensures t.problem s on.fits.reached in
    elim c.settle.ensures.settled [
      | inl m ↦ subst (λ (r : Reply). IsPrintable t (top_floor s) r) (sym m.0) (record { cells = tt; proof = tt })
      | inr r ↦ subst (λ (r : Reply). IsPrintable t (top_floor s) r) (sym r.0) (printable t s sound on.proofs c.args.step.now c.in-Ok.proposal.reply c.in-Ok.ensures.proposal.proposal.may)
    ]

pub returns-in-Ok-clause-seated : goal.returns-in-Ok-clause-seated
returns-in-Ok-clause-seated g c shown seated =
    let lock = c.args.lock.now in
    let t = c.args.translation.now in
    let a = c.args.pass.now in
    let b = c.proposed.new.pass in
    let d = c.settle.new.pass in
    let x = c.args.session.now in
    let y = c.settle.new.session in
    let step = c.args.step.now in
    let proposal = c.in-Ok.proposal in
    let has = c.in-Ok.ensures.proposal in
    let settled = subst (λ (s : InSession). HasSettled b d s y step proposal.reply c.settle.result) c.proposed.ensures.same c.settle.ensures.settled in
    let fitting = subst (λ (s : InSession). FitsProblem t.problem s.kept → HasProposed t b s step proposal → FitsProblem t.problem y.kept) c.proposed.ensures.same (c.settle.ensures.fits t) in
    let fits = fitting seated.on.fits has in
    let sound = c.a_run_is_sound.ensures t.problem x.kept.state seated.on.fits.reached in
    let answered = answered_settled t a b d x y step proposal.reply c.settle.result (same_number lock a b c.proposed.ensures.goes) c.in-Ok.ensures.begun settled has.proposal.may has.proposal.told in
    let on : IsOn t (shown + asks_step step) y.kept = elim settled [
      | inl m ↦ on_still t step x.kept y.kept shown m.2 fits seated.on
      | inr r ↦ on_after t has.pool x.kept.state sound c.covered_scenarios_are_cells.ensures step proposal.reply x.kept y.kept shown refl r.2 fits has.proposal.may has.proposal.evidence seated.on
    ] in
    let shares = shares_settled lock t a b x step shown seated c.proposed.ensures.goes (c.memory_changes_nothing.ensures.run, c.memory_changes_nothing.ensures.state) d y proposal c.settle.result c.settle.ensures.goes c.in-Ok.ensures.begun has settled in
    seated_answered (c.memory_changes_nothing.ensures.run, c.memory_changes_nothing.ensures.state) lock t a d x y shown (shown + asks_step step) step c.settle.result seated (went_then lock a b d c.proposed.ensures.goes c.settle.ensures.goes) answered
    (c.settle.ensures.owner ∙ ap (λ (s : InSession). s.owner) c.proposed.ensures.same) (c.settle.ensures.key ∙ ap (λ (s : InSession). s.key) c.proposed.ensures.same) on shares

pub returns-in-Ok-clause-key : goal.returns-in-Ok-clause-key
returns-in-Ok-clause-key g c = c.settle.ensures.key ∙ ap (λ (s : InSession). s.key) c.proposed.ensures.same

pub returns-in-Ok-clause-begins : goal.returns-in-Ok-clause-begins
returns-in-Ok-clause-begins g c =
    begins_still c.args.lock.now c.proposed.new.pass c.settle.new.pass c.args.session.now c.settle.new.session c.proposed.new.pool c.proposed.ensures.begins c.settle.ensures.goes (c.settle.ensures.key ∙ ap (λ (s : InSession). s.key) c.proposed.ensures.same)

pub returns-in-Err-clause-begins : goal.returns-in-Err-clause-begins
returns-in-Err-clause-begins g c = subst (λ (s : InSession). BeginsPool c.proposed.new.pool c.proposed.new.pass s) (sym c.proposed.ensures.same) c.proposed.ensures.begins

pub returns-in-Err-clause-answered : goal.returns-in-Err-clause-answered
returns-in-Err-clause-answered g c =
    answered_cut c.args.translation.now c.args.pass.now c.proposed.new.pass c.args.session.now c.proposed.new.session c.args.step.now (ap (λ (s : InSession). s.kept.state) c.proposed.ensures.same) c.proposed.ensures.cut

pub returns-in-Err-clause-seated : goal.returns-in-Err-clause-seated
returns-in-Err-clause-seated g c shown seated =
    let lock = c.args.lock.now in
    let t = c.args.translation.now in
    let a = c.args.pass.now in
    let b = c.proposed.new.pass in
    let x = c.args.session.now in
    let y = c.proposed.new.session in
    let step = c.args.step.now in
    let same = c.proposed.ensures.same in
    let fits : FitsProblem t.problem y.kept = subst (λ (s : InSession). FitsProblem t.problem s.kept) (sym same) seated.on.fits in
    let state = ap (λ (s : InSession). s.kept.state) same in
    let answered = answered_cut t a b x y step state c.proposed.ensures.cut in
    seated_answered (c.memory_changes_nothing.ensures.run, c.memory_changes_nothing.ensures.state) lock t a b x y shown (shown + asks_step step) step _ seated c.proposed.ensures.goes answered (ap (λ (s : InSession). s.owner) same) (ap (λ (s : InSession). s.key) same)
    (on_still t step x.kept y.kept shown state fits seated.on) (shares_cut lock t a b x step shown seated c.proposed.ensures.goes c.proposed.ensures.cut)

pub returns-in-Err-clause-key : goal.returns-in-Err-clause-key
returns-in-Err-clause-key g c = ap (λ (s : InSession). s.key) c.proposed.ensures.same
