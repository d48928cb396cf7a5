use Rattle.std.proofs.Common.{◌≡◌, ◌<◌, ◌≤◌, ◌++◌, [], ℕ, List, All, length, sym, ap, subst, arith}
use Rattle.translation_rules.specs.Imports.{IsImport}
use Rattle.rel_formula.specs.Instance.{AreCells}
use Rattle.session_rules.specs.ProofOfEnd.{ProofOfEnd}
use Rattle.session_rules.specs.Proofs.{Proves}
use Rattle.session_rules.specs.declared.end_proof.ProofKind.TheVariants.{End}
use Rattle.session_state.specs.declared.search_rounds.next.Found.{Found}
use Rattle.session_state.specs.Rounds.Next.{IsAnswer, IsEndAt}
use Rattle.session_tests.proofs.of_proof_lines.ended.Goals as goal

pub next_at-requires-clause-import : goal.next_at-requires-clause-import
next_at-requires-clause-import c =
    let none : IsImport c.args.made.now [] = record { accepted = λ i d l. absurd (omega arith); few = omega arith } in
    subst (IsImport c.args.made.now) (sym c.new-pool.ensures) none

pub next_at-requires-clause-floor : goal.next_at-requires-clause-floor
next_at-requires-clause-floor c =
    let none : AreCells c.args.made.now.problem [] = λ k d l. absurd (omega arith) in
    subst (AreCells c.args.made.now.problem) (sym c.new-floor.ensures) none

pub returns-in-Ended : goal.returns-in-Ended
returns-in-Ended c =
    let t = c.args.made.now in
    let floor : List ℕ = c.new-floor.result in
    let proof : ProofOfEnd = c.in-Ended.proof in
    let parts = c.in_ok-next.next.parts in
    let found : List (List ℕ) = c.in_ok-next.next.copies in
    let told : IsEndAt t c.new-pool.result floor [] ([] ++ [] ++ found) parts proof =
    subst (λ (f : Found). IsAnswer t c.new-pool.result floor [] [] 1000 parts found f) c.in-Ended.is c.in_ok-next.ensures.answer in
    record {
      blocked = c.covered_scenarios_are_cells.ensures t.problem floor [] proof.blocked (λ k d l. absurd (omega arith)) told.covered;
      proves = subst (λ (at : List ℕ). Proves t at End proof) c.new-floor.ensures told.proves;
    }
