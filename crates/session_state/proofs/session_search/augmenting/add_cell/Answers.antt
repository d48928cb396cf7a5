use Rattle.std.proofs.Common.{◌≡◌, ◌≤◌, ◌<◌, ◌∙◌, true, false, length, Contains, refl, sym, ap, subst, arith}
use Rattle.std.proofs.lemmas.Result.{IfOk-weaker}
use Rattle.rel_formula.specs.Instance.{AreCells, with_cell}
use Rattle.session_words.specs.declared.steps.Step.TheVariants.{Augment}
use Rattle.session_rules.specs.Steps.{AsksFor}
use Rattle.session_rules.specs.declared.answers.Refusal.TheVariants.{Deep}
use Rattle.session_state.specs.Sessions.Proposed.{IsProposal}
use Rattle.session_state.proofs.Sessions.IdleReplies.{refused}
use Rattle.session_state.proofs.Sessions.FloorProposals.{cells_with}
use Rattle.session_state.proofs.session_search.augmenting.add_cell.Goals as goal

pub returns-then-height-ge-MOST_FLOORS-clause-proposal : goal.returns-then-height-ge-MOST_FLOORS-clause-proposal
returns-then-height-ge-MOST_FLOORS-clause-proposal c = λ name names named.
    let t = c.args.translation.now in
    let pool = c.args.pool.now in
    let s = c.args.store.now.state in
    let current = c.args.current.now in
    let cell = c.args.cell in
    let absent : ¬ Contains current cell = λ has. absurd (let e : false ≡ true = c.if-has.ensures.1 has in cc) in
    let asked : AsksFor t.problem s name names (with_cell cell current) = record { current = current; is_current = c.requires.current; cell = cell; named = named; absent = absent; floor_is = refl } in
    let high : 64 ≤ length s.above = let e = c.height.ensures in omega arith in
    subst (IsProposal t pool s (Augment name names)) (sym c.at_once-then-height-ge-MOST_FLOORS.ensures)
    (refused t pool s (Augment name names) Deep c.nothing_done_is_work.ensures (with_cell cell current, asked, high) (λ h. h))

pub go_up-requires-clause-floor : goal.go_up-requires-clause-floor
go_up-requires-clause-floor c =
    let p = c.args.translation.now.problem in
    let floor_is = c.in_ok-insert.ensures.value ∙ ap (with_cell c.args.cell) c.in_ok-floor.ensures in
    subst (AreCells p) (sym floor_is) (cells_with p c.args.cell c.args.current.now c.requires.cells c.requires.cell)

pub returns-clause-proposal : goal.returns-clause-proposal
returns-clause-proposal c =
    let t = c.args.translation.now in
    let s = c.args.store.now.state in
    let current = c.args.current.now in
    let cell = c.args.cell in
    let absent : ¬ Contains current cell = λ has. absurd (let e : false ≡ true = c.if-has.ensures.1 has in cc) in
    let floor_is : c.insert.new.self ≡ with_cell cell current = c.in_ok-insert.ensures.value ∙ ap (with_cell cell) c.in_ok-floor.ensures in
    let room : length s.above < 64 = let e = c.height.ensures in omega arith in
    IfOk-weaker c.go_up.result _ _ (λ p h name names named.
    h s name names (record { current = current; is_current = c.requires.current; cell = cell; named = named; absent = absent; floor_is = floor_is }) room (sym c.budget.ensures)) c.go_up.ensures.proposal
