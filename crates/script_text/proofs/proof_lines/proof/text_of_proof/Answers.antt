use Rattle.std.proofs.Common.{◌≡◌, ◌≤◌, ℕ, List, length, sym, ◌∙◌, ap, subst}
use Rattle.cnf_core.specs.Formula.{Formula, IsFormula}
use Rattle.refutation_check.specs.declared.log.Step.{Step}
use Rattle.refutation_check.specs.Chain.{members_of}
use Rattle.refutation_check.specs.Log.{IsLog}
use Rattle.refutation_check.specs.ProofText.{IsProofText, largest_in}
use Rattle.refutation_check.specs.WrittenProof.{proof_text, HasHintsInRange}
use Rattle.script_text.specs.Proofs.Printed.{clauses_of_proof, text_of_proof}
use Rattle.script_text.proofs.proof_lines.proof.text_of_proof.Goals as goal

pub returns-clause-checkable : goal.returns-clause-checkable
returns-clause-checkable c =
    let t = c.args.translation.now in
    let floor = c.args.floor.now in
    let kind = c.args.kind in
    let proof = c.args.proof.now in
    let f : Formula = c.in_ok-formula.formula in
    let log : List Step = c.in_ok-formula.log in
    let text : List ℕ = c.in_ok-text.text.items in
    let said : Formula = record { vars = largest_in (members_of f.clauses log); clauses = f.clauses } in
    let made = c.in_ok-formula.ensures in
    let same : text ≡ text_of_proof t floor kind proof =
    c.in_ok-text.ensures.written ∙ ap (λ (g : Formula). proof_text g.clauses log) made.formula ∙ ap (λ (ss : List Step). proof_text (clauses_of_proof t floor kind proof) ss) made.log in
    record {
      formula = subst IsFormula made.formula c.vars.ensures.formula;
      log = subst IsLog made.log c.steps.ensures.log;
      hints = subst HasHintsInRange made.log made.hints;
      accepted = λ short.
          let is : IsProofText text said log = c.in_ok-text.ensures.proof (subst (λ (bytes : List ℕ). length bytes ≤ 268435456) (sym same) short) in
          c.refutations_are_accepted.ensures (text_of_proof t floor kind proof) said log (subst (λ (bytes : List ℕ). IsProofText bytes said log) same is) made.refutation;
    }
