-- Answers to the bytes of a script, whatever answers the script.
use Rattle.std.proofs.Common.{◌≡◌, ◌⊎◌, ℕ, List, ap, subst, ◌∙◌, inl, inr}
use Rattle.outside_io.specs.declared.status.Status.{Status}
use Rattle.outside_io.specs.declared.status.Status.TheVariants.{InputRefused}
use Rattle.script_format.specs.declared.entries.Script.{Script}
use Rattle.script_format.specs.declared.fault.ScriptFault.{ScriptFault}
use Rattle.script_format.specs.Script.{IsScript, HasFault}
use Rattle.script_format.proofs.UniqueScripts.{one_script, one_fault, no_fault_of_script}
use Rattle.script_text.specs.Faults.{script_line, fault_words}
use Rattle.explorer_cli.specs.Outcome.{IsFaultAnswer}

-- a status and a text answer bytes that are a script as this says, or tell the fault of bytes that are none
abbrev pub IsAnswerBy : (Script → Status → List ℕ → Type 0) → List ℕ → Status → List ℕ → Type 0
IsAnswerBy AnswersScript bytes status text = IsFaultAnswer bytes status text ⊎ ((s : Script) × IsScript bytes s × AnswersScript s status text)

module _ (AnswersScript : Script → Status → List ℕ → Type 0) where
  pub fault_by : (bytes : List ℕ) (f : ScriptFault) (status : Status) (text : List ℕ) → HasFault bytes f → IsAnswerBy AnswersScript bytes status text → (status ≡ InputRefused) × (text ≡ script_line (fault_words f))
  fault_by bytes f status text has (inl told) = (told.2, told.3 ∙ ap (λ (g : ScriptFault). script_line (fault_words g)) (one_fault bytes told.0 f told.1 has))
  fault_by bytes f status text has (inr script) = absurd (no_fault_of_script bytes script.0 f script.1 has)

  -- the answer to bytes is that to their script
  pub to_script : (bytes : List ℕ) (s : Script) (status : Status) (text : List ℕ) → IsScript bytes s → IsAnswerBy AnswersScript bytes status text → AnswersScript s status text
  to_script bytes s status text is (inl told) = absurd (no_fault_of_script bytes s told.0 is told.1)
  to_script bytes s status text is (inr script) = subst (λ (t : Script). AnswersScript t status text) (one_script bytes script.0 s script.1 is) script.2
