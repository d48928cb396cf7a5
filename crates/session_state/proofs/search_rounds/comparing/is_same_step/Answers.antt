use Rattle.std.proofs.Common.{◌≡◌, ◌∙◌, ℕ, List, ap₂, sym}
use Rattle.std.proofs.lemmas.Bool.Decides.{Decides-eqb}
use Rattle.std.proofs.lemmas.Slice.Eq.{slice_eq-Decides}
use Rattle.cnf_core.specs.declared.literal.Lit.{Lit}
use Rattle.refutation_check.specs.declared.log.Step.{Step}
use Rattle.session_state.proofs.search_rounds.comparing.is_same_step.Goals as goal

pub returns-then-is_same_clause : goal.returns-then-is_same_clause
returns-then-is_same_clause c = λ t.
    let one : Step = c.args.step.now in
    let two : Step = c.args.other.now in
    let clause : one.clause ≡ two.clause = c.is_same_clause.ensures c.if-is_same_clause.true in
    let hints : one.hints ≡ two.hints = sym c.numbers.ensures ∙ (slice_eq-Decides Decides-eqb _ _ _ c.eq.ensures).0 t ∙ c.numbers-then-is_same_clause.ensures in
    let made : List Lit → List ℕ → Step = λ lits numbers. record { clause = lits; hints = numbers } in
    ap₂ made clause hints
