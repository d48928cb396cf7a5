-- The bytes that are read, where more than a script may have is left unread.
use Rattle.std.proofs.Common.{ℕ, ◌≤◌, inl, inr, List, take, length, subst, arith}
use Rattle.std.proofs.lemmas.Bool.{cases_lt}
use Rattle.std.proofs.lemmas.List.{take_all, length-take-le}
use Rattle.outside_io.specs.declared.status.Status.{Status}
use Rattle.script_format.specs.declared.fault.ScriptFault.{ScriptFault}
use Rattle.script_format.specs.declared.entries.Script.{Script}
use Rattle.script_format.specs.Script.{HasFault}
use Rattle.served_models.specs.declared.purposes.Purpose.TheVariants.{Lists, Classes}
use Rattle.command_words.specs.declared.reading.Command.{Command}
use Rattle.command_words.specs.declared.reading.Command.TheVariants.{Run, Distinct, Check, Assert, Facts, Load, Crew}
use Rattle.proof_command.proofs.WholeTexts.{answers_whole as proof_whole}
use Rattle.explorer_cli.specs.Outcome.{IsAnswerOfRuns, IsAnswerToScript, IsAnswerTo, limit_of}
use Rattle.explorer_cli.proofs.AnswersBy.{IsAnswerBy}

-- bytes of which more than a script may have are at the front have the front's fault
long_fault : (bytes : List ℕ) (f : ScriptFault) → 1048577 ≤ length bytes → HasFault (take 1048577 bytes) f → HasFault bytes f
long_fault bytes f more fault =
    let front = length-take-le 1048577 bytes more in
    elim fault [
      | inl long ↦ inl (long.0, omega arith)
      | inr (inl not_text) ↦ let l = not_text.1 in absurd (omega arith)
      | inr (inr line) ↦ let l = line.0.0 in absurd (omega arith)
    ]

-- a shorter front is the whole
script_whole : (AnswersScript : Script → Status → List ℕ → Type 0) (bytes : List ℕ) (status : Status) (text : List ℕ)
    → IsAnswerBy AnswersScript (take 1048577 bytes) status text → IsAnswerBy AnswersScript bytes status text
script_whole AnswersScript bytes status text answer = elim (cases_lt (length bytes) 1048577) [
  | inl less ↦ subst (λ (xs : List ℕ). IsAnswerBy AnswersScript xs status text) (take_all 1048577 bytes (omega arith)) answer
  | inr more ↦
      let front = length-take-le 1048577 bytes (omega arith) in
      elim answer [
        | inl fault ↦ inl (fault.0, long_fault bytes fault.0 (omega arith) fault.1, fault.2, fault.3)
        | inr script ↦ let l = script.1.is_text.0 in absurd (omega arith)
      ]
]

-- what answers the bytes that a command reads answers all of them
pub answers_whole : (command : Command) (bytes : List ℕ) (status : Status) (text : List ℕ) → IsAnswerTo command (take (limit_of command) bytes) status text → IsAnswerTo command bytes status text
answers_whole (Run workers budget) bytes status text answer = script_whole (IsAnswerOfRuns Lists budget) bytes status text answer
answers_whole (Distinct workers budget) bytes status text answer = script_whole (IsAnswerOfRuns Classes budget) bytes status text answer
answers_whole Check bytes status text answer = proof_whole bytes status text answer
answers_whole (Assert budget) bytes status text answer = script_whole (IsAnswerToScript (Assert budget)) bytes status text answer
answers_whole (Facts budget) bytes status text answer = script_whole (IsAnswerToScript (Facts budget)) bytes status text answer
answers_whole (Load number workers) bytes status text answer = answer
answers_whole (Crew workers budget) bytes status text answer = script_whole (IsAnswerToScript (Crew workers budget)) bytes status text answer
