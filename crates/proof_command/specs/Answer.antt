-- What the command `check` answers: its lines and its statuses.
use Rattle.std.specs.Prelude.{◌≡◌, ◌≢◌, ◌⊎◌, ◌++◌, [], ℕ, List, codes, decimal}
use Rattle.cnf_core.specs.Formula.{Formula}
use Rattle.outside_io.specs.declared.status.Status.{Status}
use Rattle.outside_io.specs.declared.status.Status.TheVariants.{Done, NotAccepted, InputRefused, SourceFailed, SinkFailed, NoMemory}
use Rattle.refutation_check.specs.declared.log.Step.{Step}
use Rattle.refutation_check.specs.declared.refutation.Verdict.{Verdict}
use Rattle.refutation_check.specs.declared.refutation.Verdict.TheVariants.{Accepted, Refused, NoEmptyClause}
use Rattle.refutation_check.specs.declared.proof_text.fault.ProofFault.{ProofFault}
use Rattle.refutation_check.specs.declared.proof_text.fault.ProofFault.TheVariants.{BadLine, NumberTooLarge, Tautology, TooLong, Memory}
use Rattle.refutation_check.specs.Verdict.{Fits}
use Rattle.refutation_check.specs.ProofText.{IsProofText}
use Rattle.refutation_check.specs.ProofFault.{HasFault}

-- ---- lines

abbrev pub refused_line : ℕ → ℕ → List ℕ
refused_line step hint = codes "refused step " ++ decimal step ++ codes " hint " ++ decimal hint ++ codes "\n"

abbrev pub verdict_line : Verdict → List ℕ
verdict_line Accepted = codes "accepted\n"
verdict_line (Refused step hint) = refused_line step hint
verdict_line NoEmptyClause = codes "no empty clause\n"

-- the fault of a line, with its kind
abbrev pub line_fault : ℕ → List ℕ → List ℕ
line_fault line kind = codes "fault proof line " ++ decimal line ++ kind

-- the line that tells a fault; want of memory has none
abbrev pub fault_line : ProofFault → List ℕ
fault_line TooLong = codes "fault proof too_long\n"
fault_line (BadLine line) = line_fault line (codes " bad_line\n")
fault_line (NumberTooLarge line) = line_fault line (codes " number_too_large\n")
fault_line (Tautology line) = line_fault line (codes " tautology\n")
fault_line Memory = []

-- ---- answers

-- the status of an accepted log, and that of any other
abbrev pub verdict_status : Verdict → Status
verdict_status Accepted = Done
verdict_status (Refused step hint) = NotAccepted
verdict_status NoEmptyClause = NotAccepted

-- the text says a formula and a log, and the verdict is right of these
pub record IsVerdictAnswer (bytes : List ℕ) (status : Status) (text : List ℕ) : Type 0 where
  pub formula : Formula
  pub log : List Step
  pub verdict : Verdict
  pub proof : IsProofText bytes formula log
  pub fits : Fits formula.clauses log verdict
  pub under : status ≡ verdict_status verdict
  pub line : text ≡ verdict_line verdict

-- the text is no proof text, for its first fault
pub record IsFaultAnswer (bytes : List ℕ) (status : Status) (text : List ℕ) : Type 0 where
  pub fault : ProofFault
  pub first : HasFault bytes fault
  pub told : fault ≢ Memory
  pub under : status ≡ InputRefused
  pub line : text ≡ fault_line fault

-- a status and a text answer the bytes of the input
abbrev pub IsAnswerTo : List ℕ → Status → List ℕ → Type 0
IsAnswerTo bytes status text = IsVerdictAnswer bytes status text ⊎ IsFaultAnswer bytes status text

-- accepted, not accepted, no proof text, a source that failed, a sink that failed, want of memory
abbrev pub IsCheckStatus : Status → Type 0
IsCheckStatus status = (status ≡ Done) ⊎ (status ≡ NotAccepted) ⊎ (status ≡ InputRefused) ⊎ (status ≡ SourceFailed) ⊎ (status ≡ SinkFailed) ⊎ (status ≡ NoMemory)
