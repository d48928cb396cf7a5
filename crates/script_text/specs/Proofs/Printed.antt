-- The formula and the log that are printed of a proof, and what `check` answers to them.
use Rattle.std.specs.Prelude.{◌≤◌, ◌++◌, ℕ, List, length, codes}
use Rattle.cnf_core.specs.declared.literal.Lit.{Lit}
use Rattle.cnf_core.specs.Formula.{Formula, IsFormula}
use Rattle.refutation_check.specs.declared.log.Step.{Step}
use Rattle.refutation_check.specs.Log.{IsLog}
use Rattle.refutation_check.specs.WrittenProof.{proof_text, HasHintsInRange}
use Rattle.outside_io.specs.declared.status.Status.TheVariants.{Done}
use Rattle.proof_command.specs.Answer.{IsAnswerTo}
use Rattle.translation_rules.specs.Translation.{Translated}
use Rattle.translation.specs.Numbered.{vars_of}
use Rattle.session_rules.specs.ProofOfEnd.{ProofOfEnd}
use Rattle.session_rules.specs.Proofs.{whole_log, locals_for}
use Rattle.session_rules.specs.declared.end_proof.ProofKind.{ProofKind}

-- the clauses of the translation, and then the proof's local ones
abbrev pub clauses_of_proof : Translated → List ℕ → ProofKind → ProofOfEnd → List (List Lit)
clauses_of_proof t floor kind proof = t.cnf.clauses ++ locals_for t floor kind proof.blocked

-- these clauses, over the variables of the translation
abbrev pub formula_of_proof : Translated → List ℕ → ProofKind → ProofOfEnd → Formula
formula_of_proof t floor kind proof = record { vars = vars_of t; clauses = clauses_of_proof t floor kind proof }

-- the imported steps, with room made for the local clauses, and then the proof's own
abbrev pub log_of_proof : Translated → List ℕ → ProofKind → ProofOfEnd → List Step
log_of_proof t floor kind proof = whole_log t (locals_for t floor kind proof.blocked) proof

-- the lines of a proof
abbrev pub text_of_proof : Translated → List ℕ → ProofKind → ProofOfEnd → List ℕ
text_of_proof t floor kind proof = proof_text (clauses_of_proof t floor kind proof) (log_of_proof t floor kind proof)

-- the bytes are a proof text, and `check` accepts it
abbrev pub IsAcceptedText : List ℕ → Type 0
IsAcceptedText bytes = IsAnswerTo bytes Done (codes "accepted\n")

-- what is printed of the proof is a formula, and a log whose hints are numbers of a proof text; where the lines are no longer
-- than a proof text may be, they are accepted
pub record IsCheckable (t : Translated) (floor : List ℕ) (kind : ProofKind) (proof : ProofOfEnd) : Type 0 where
  pub formula : IsFormula (formula_of_proof t floor kind proof)
  pub log : IsLog (log_of_proof t floor kind proof)
  pub hints : HasHintsInRange (log_of_proof t floor kind proof)
  pub accepted : length (text_of_proof t floor kind proof) ≤ 268435456 → IsAcceptedText (text_of_proof t floor kind proof)
