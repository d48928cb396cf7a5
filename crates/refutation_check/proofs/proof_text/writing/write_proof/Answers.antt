use Rattle.std.proofs.Common.{◌≡◌, ◌++◌, List, ℕ, refl, sym, subst, ap, ◌∙◌}
use Rattle.std.specs.List.{flat_map}
use Rattle.std.specs.Str.Lines.{lines}
use Rattle.cnf_core.specs.declared.literal.Lit.{Lit}
use Rattle.refutation_check.specs.declared.log.Step.{Step}
use Rattle.refutation_check.specs.ProofText.{Says}
use Rattle.refutation_check.specs.WrittenProof.{clause_text, step_text, proof_text}
use Rattle.refutation_check.proofs.WrittenTexts.{written_says}
use Rattle.refutation_check.proofs.proof_text.writing.write_proof.Goals as goal

pub returns-clause-proof : goal.returns-clause-proof
returns-clause-proof c =
    let clauses = c.args.f.now.clauses in
    let log = c.args.log.now in
    let whole : c.push_steps.new.out.items ≡ proof_text clauses log =
    c.in_ok-push_steps.ensures
    ∙ ap (λ t. t ++ flat_map step_text c.steps-steps.result.now) (c.in_ok-push_clauses.ensures ∙ ap (λ t. t ++ flat_map clause_text clauses) c.new-text.ensures.items)
    ∙ ap (λ (ss : List Step). flat_map clause_text clauses ++ flat_map step_text ss) c.steps-steps.ensures.steps in
    λ short. record {
      short = short;
      says = subst (λ (text : List ℕ). Says (lines text) clauses log) (sym whole) (written_says clauses log c.vars.ensures.formula.clauses c.steps-steps.ensures.log.clauses c.requires);
      vars = refl;
    }
