-- Bytes have one answer.
use Rattle.std.proofs.Common.{◌≡◌, ◌≢◌, ◌⊎◌, ℕ, List, inl, inr, refl, sym, subst, ap, ◌∙◌}
use Rattle.cnf_core.specs.Formula.{Formula}
use Rattle.outside_io.specs.declared.status.Status.{Status}
use Rattle.refutation_check.specs.declared.log.Step.{Step}
use Rattle.refutation_check.specs.declared.refutation.Verdict.{Verdict}
use Rattle.refutation_check.specs.declared.proof_text.fault.ProofFault.{ProofFault}
use Rattle.refutation_check.specs.declared.proof_text.fault.ProofFault.TheVariants.{Memory}
use Rattle.refutation_check.specs.ProofFault.{HasFault}
use Rattle.refutation_check.specs.Verdict.{Fits}
use Rattle.refutation_check.proofs.Verdicts.{verdict_exactly}
use Rattle.refutation_check.proofs.ProofLaws.{one_proof, proof_has_no_fault, one_fault}
use Rattle.proof_command.specs.Answer.{verdict_status, verdict_line, fault_line, IsVerdictAnswer, IsFaultAnswer, IsAnswerTo}

one_verdict : (bytes : List ℕ) (status other : Status) (text more : List ℕ) (a : IsVerdictAnswer bytes status text) (b : IsVerdictAnswer bytes other more) → a.verdict ≡ b.verdict
one_verdict bytes status other text more a b =
    let same = one_proof bytes a.formula b.formula a.log b.log a.proof b.proof in
    let fits = subst (λ (log : List Step). Fits b.formula.clauses log a.verdict) same.1 (subst (λ (f : Formula). Fits f.clauses a.log a.verdict) same.0 a.fits) in
    (verdict_exactly b.formula.clauses b.log a.verdict b.verdict fits).1 b.fits

the_fault : (a b : ProofFault) → a ≢ Memory → b ≢ Memory → (a ≡ b) ⊎ (a ≡ Memory) ⊎ (b ≡ Memory) → a ≡ b
the_fault a b na nb (inl same) = same
the_fault a b na nb (inr (inl memory)) = absurd (na memory)
the_fault a b na nb (inr (inr memory)) = absurd (nb memory)

one_first : (bytes : List ℕ) (status other : Status) (text more : List ℕ) (a : IsFaultAnswer bytes status text) (b : IsFaultAnswer bytes other more) → a.fault ≡ b.fault
one_first bytes status other text more a b = the_fault a.fault b.fault a.told b.told (one_fault bytes a.fault b.fault a.first b.first)

not_both : (bytes : List ℕ) (status other : Status) (text more : List ℕ) → IsVerdictAnswer bytes status text → IsFaultAnswer bytes other more → ⊥
not_both bytes status other text more a b = b.told (proof_has_no_fault bytes a.formula a.log b.fault a.proof b.first)

pub one_status : (bytes : List ℕ) (status other : Status) (text more : List ℕ) → IsAnswerTo bytes status text → IsAnswerTo bytes other more → status ≡ other
one_status bytes status other text more (inl a) (inl b) = a.under ∙ ap verdict_status (one_verdict bytes status other text more a b) ∙ sym b.under
one_status bytes status other text more (inl a) (inr b) = absurd (not_both bytes status other text more a b)
one_status bytes status other text more (inr a) (inl b) = absurd (not_both bytes other status more text b a)
one_status bytes status other text more (inr a) (inr b) = a.under ∙ sym b.under

pub one_text : (bytes : List ℕ) (status other : Status) (text more : List ℕ) → IsAnswerTo bytes status text → IsAnswerTo bytes other more → text ≡ more
one_text bytes status other text more (inl a) (inl b) = a.line ∙ ap verdict_line (one_verdict bytes status other text more a b) ∙ sym b.line
one_text bytes status other text more (inl a) (inr b) = absurd (not_both bytes status other text more a b)
one_text bytes status other text more (inr a) (inl b) = absurd (not_both bytes other status more text b a)
one_text bytes status other text more (inr a) (inr b) = a.line ∙ ap fault_line (one_first bytes status other text more a b) ∙ sym b.line
