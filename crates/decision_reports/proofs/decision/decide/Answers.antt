use Rattle.std.proofs.Common.{◌≡◌, ◌≤◌, ◌+◌, [], ℕ, List, length, All, Contains, sym, subst, arith}
use Rattle.refutation_check.specs.declared.log.Step.{Step as LogStep}
use Rattle.refutation_check.specs.Part.{Parted}
use Rattle.rel_formula.specs.Bounds.{IsProblem}
use Rattle.translation_rules.specs.Imports.{IsImport}
use Rattle.translation_rules.specs.Parts.{AreSearched}
use Rattle.session_rules.specs.Proofs.{IsCopy}
use Rattle.session_rules.specs.Work.{IsNextWork, units_in}
use Rattle.session_state.specs.Rounds.Next.{IsAnswer, IsStopped}
use Rattle.decision_reports.specs.Decided.{IsDecision}
use Rattle.decision_reports.proofs.FirstFound.{decided}
use Rattle.decision_reports.proofs.decision.decide.Goals as goal

pub next_at-requires-clause-import : goal.next_at-requires-clause-import
next_at-requires-clause-import c = subst (IsImport c.args.translation.now) (sym c.new-pool.ensures) (record { accepted = λ i d less. absurd (omega arith); few = omega arith })

pub returns : goal.returns
returns c =
    let t = c.args.translation.now in
    let budget = c.args.budget in
    let next = c.in_ok-next.next in
    let told = c.in_ok-next.ensures in
    let pool = c.new-pool.ensures in
    let floor = c.new-floor.ensures in
    let parts : List Parted = next.parts in
    let copies : List (List ℕ) = next.copies in
    let searched : AreSearched t [] parts = subst (λ (ss : List LogStep). AreSearched t ss parts) pool told.searched in
    let work = subst (λ (f : List ℕ). (work : IsNextWork t f [] parts copies) × (work.blocked ≡ []) × (length work.rounds ≡ length copies + 1)) floor told.work in
    let new = subst (λ (f : List ℕ). All (λ copy. IsCopy t.problem f [] copy × (¬ Contains [] copy)) copies) floor told.copies in
    let units = subst (λ (ss : List LogStep). units_in t ss parts copies ≤ budget) pool told.units in
    let answer = subst (λ (f : List ℕ). IsAnswer t [] f [] [] budget parts copies next.found) floor (subst (λ (ss : List LogStep). IsAnswer t ss c.new-floor.result [] [] budget parts copies next.found) pool told.answer) in
    let stopped = subst (λ (f : List ℕ). IsStopped t [] f [] parts copies next.found) floor (subst (λ (ss : List LogStep). IsStopped t ss c.new-floor.result [] parts copies next.found) pool told.stopped) in
    let is = subst IsProblem c.problem.ensures.value c.relations.ensures.well in
    let well = c.problem.ensures.well in
    subst (IsDecision t budget) (sym c.decision_of.ensures)
    (decided t budget is well.symmetric (c.nothing_due_is_no_instance.ensures t.problem is well.symmetric) parts copies searched work next.found new units answer stopped)
