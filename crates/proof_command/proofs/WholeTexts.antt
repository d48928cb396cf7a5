-- The bytes that are read, where more than a proof text may have is left unread.
use Rattle.std.proofs.Common.{◌≡◌, ◌≤◌, ℕ, inl, inr, List, take, length, subst, arith}
use Rattle.std.proofs.lemmas.Bool.{cases_lt}
use Rattle.std.proofs.lemmas.List.{take_all, length-take-le}
use Rattle.refutation_check.specs.declared.proof_text.fault.ProofFault.{ProofFault}
use Rattle.refutation_check.specs.declared.proof_text.fault.ProofFault.TheVariants.{BadLine, NumberTooLarge, Tautology, TooLong, Memory}
use Rattle.refutation_check.specs.ProofFault.{HasFault}
use Rattle.outside_io.specs.declared.status.Status.{Status}
use Rattle.proof_command.specs.Answer.{IsAnswerTo}

-- a front of too many bytes has the fault that the whole has
fault_whole : (bytes : List ℕ) (fault : ProofFault) → length (take 268435457 bytes) ≡ 268435457 → 268435457 ≤ length bytes → HasFault (take 268435457 bytes) fault → HasFault bytes fault
fault_whole bytes TooLong front more is = omega arith
fault_whole bytes (BadLine n) front more is = let short = is.0 in absurd (omega arith)
fault_whole bytes (NumberTooLarge n) front more is = let short = is.0 in absurd (omega arith)
fault_whole bytes (Tautology n) front more is = let short = is.0 in absurd (omega arith)
fault_whole bytes Memory front more is = is

-- a front with a byte more than a proof text may have is none, and neither is the whole; a shorter front is the whole
pub answers_whole : (bytes : List ℕ) (status : Status) (text : List ℕ) → IsAnswerTo (take 268435457 bytes) status text → IsAnswerTo bytes status text
answers_whole bytes status text answer = elim (cases_lt (length bytes) 268435457) [
  | inl less ↦ subst (λ (xs : List ℕ). IsAnswerTo xs status text) (take_all 268435457 bytes (omega arith)) answer
  | inr more ↦
      let front = length-take-le 268435457 bytes (omega arith) in
      elim answer [
        | inl verdict ↦ let short = verdict.proof.short in absurd (omega arith)
        | inr fault ↦ inr (record { fault = fault.fault; first = fault_whole bytes fault.fault front (omega arith) fault.first; told = fault.told; under = fault.under; line = fault.line })
      ]
]
