use Rattle.std.proofs.Common.{◌≤◌, ◌+◌, ℕ, arith, inl, inr, refl, sym, subst}
use Rattle.session_state.specs.Sessions.Proposed.{IsPlain, NeedsTranslation}
use Rattle.hub_turns.proofs.Onward.{went_none}
use Rattle.session_turns.proofs.Answering.{on_ok, begun_plain, plain_proposed, plain_step, plain_where_allowed, searched_costs}
use Rattle.session_turns.proofs.steps.proposed.Goals as goal

pub searched-requires-clause-asked : goal.searched-requires-clause-asked
searched-requires-clause-asked g c = c.needs_translation.ensures.0 c.if-needs_translation.true

pub returns-then-needs_translation-clause-spent : goal.returns-then-needs_translation-clause-spent
returns-then-needs_translation-clause-spent g c =
    let cost = searched_costs c.args.session.now.kept.state.budget c.args.step.now (c.needs_translation.ensures.0 c.if-needs_translation.true) in
    let spent = c.searched.ensures.spent in
    omega (arith, cost, spent)

pub propose-requires-clause-import : goal.propose-requires-clause-import
propose-requires-clause-import g c = λ needs. absurd (let t = c.needs_translation.ensures.1 needs in let f = c.if-needs_translation.false in cc)

pub propose-requires-clause-asked : goal.propose-requires-clause-asked
propose-requires-clause-asked g c =
    let none : ¬ NeedsTranslation c.args.step.now = λ needs. absurd (let t = c.needs_translation.ensures.1 needs in let f = c.if-needs_translation.false in cc) in
    inr (plain_where_allowed c.args.step.now none c.requires.allowed)

pub returns-clause-goes : goal.returns-clause-goes
returns-clause-goes g c = went_none c.args.lock.now c.args.pass.now c.requires.idle

pub returns-clause-begun : goal.returns-clause-begun
returns-clause-begun g c =
    let none : ¬ NeedsTranslation c.args.step.now = λ needs. absurd (let t = c.needs_translation.ensures.1 needs in let f = c.if-needs_translation.false in cc) in
    on_ok c.propose.result (begun_plain c.args.pass.now c.args.step.now c.args.session.now (plain_step c.args.step.now none))

pub returns-clause-cut : goal.returns-clause-cut
returns-clause-cut g c = inl refl

pub returns-clause-proposal : goal.returns-clause-proposal
returns-clause-proposal g c =
    let none : ¬ NeedsTranslation c.args.step.now = λ needs. absurd (let t = c.needs_translation.ensures.1 needs in let f = c.if-needs_translation.false in cc) in
    plain_proposed c.args.translation.now c.args.pass.now c.args.session.now c.args.step.now c.propose.result c.nothing_done_is_work.ensures (c.propose.ensures.plain (plain_where_allowed c.args.step.now none c.requires.allowed))

pub returns-clause-same : goal.returns-clause-same
returns-clause-same g c = c.propose.ensures.same

pub returns-clause-spent : goal.returns-clause-spent
returns-clause-spent g c =
    let none : ¬ NeedsTranslation c.args.step.now = λ needs. absurd (let t = c.needs_translation.ensures.1 needs in let f = c.if-needs_translation.false in cc) in
    let same = c.propose.ensures.idle (plain_where_allowed c.args.step.now none c.requires.allowed) in
    omega (arith, same)
