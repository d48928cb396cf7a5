-- Which status and text the answers of `assert` and `facts` to bytes have.
use Rattle.std.proofs.Common.{◌≡◌, ◌⊎◌, ℕ, List, ap, ◌∙◌, inl, inr}
use Rattle.alloy_syntax.specs.declared.tree.CommandKind.{CommandKind}
use Rattle.outside_io.specs.declared.status.Status.{Status}
use Rattle.outside_io.specs.declared.status.Status.TheVariants.{Done, InputRefused, ModelRefused}
use Rattle.script_format.specs.declared.entries.Script.{Script}
use Rattle.script_format.specs.declared.entries.ModelEntry.{ModelEntry}
use Rattle.script_format.specs.declared.fault.ScriptFault.{ScriptFault}
use Rattle.script_format.specs.Script.{IsScript, HasFault}
use Rattle.script_text.specs.Faults.{script_line, fault_words}
use Rattle.served_models.specs.Served.{model_line}
use Rattle.decision_reports.specs.Taken.{IsFirstRefusedFor}
use Rattle.explorer_cli.specs.Outcome.{IsModelAnswer}
use Rattle.explorer_cli.proofs.AnswersBy.{IsAnswerBy, fault_by, to_script}

-- a script is answered with its first model of which a command of this kind can't be run, or with what is told of its models
abbrev pub IsReported : CommandKind → (List ModelEntry → List ℕ → Type 0) → Script → Status → List ℕ → Type 0
IsReported kind IsTold s status text = IsModelAnswer (IsFirstRefusedFor kind s.models) status text ⊎ ((status ≡ Done) × IsTold s.models text)

module _ (kind : CommandKind) (IsTold : List ModelEntry → List ℕ → Type 0) where
  -- what the laws of reports say, as they are used here
  abbrev OneRefused : Type 0
  OneRefused = (entries : List ModelEntry) (name words others more : List ℕ) → IsFirstRefusedFor kind entries name words → IsFirstRefusedFor kind entries others more → (name ≡ others) × (words ≡ more)

  abbrev NotToldToo : Type 0
  NotToldToo = (entries : List ModelEntry) (text name words : List ℕ) → IsTold entries text → IsFirstRefusedFor kind entries name words → ⊥

  pub report_fault : (bytes : List ℕ) (f : ScriptFault) (status : Status) (text : List ℕ) → HasFault bytes f → IsAnswerBy (IsReported kind IsTold) bytes status text → (status ≡ InputRefused) × (text ≡ script_line (fault_words f))
  report_fault bytes f status text has answer = fault_by (IsReported kind IsTold) bytes f status text has answer

  refused_of : OneRefused → NotToldToo → (s : Script) (name words : List ℕ) (status : Status) (text : List ℕ) → IsFirstRefusedFor kind s.models name words → IsReported kind IsTold s status text
      → (status ≡ ModelRefused) × (text ≡ model_line name words)
  refused_of one not_both s name words status text first (inl model) =
      let same = one s.models model.1.0 model.1.1 name words model.1.2 first in
      (model.0, model.1.3 ∙ ap (λ (n : List ℕ). model_line n model.1.1) same.0 ∙ ap (model_line name) same.1)
  refused_of one not_both s name words status text first (inr told) = absurd (not_both s.models text name words told.1 first)

  told_of : (s : Script) (status : Status) (text : List ℕ) → ((name words : List ℕ) → ¬ IsFirstRefusedFor kind s.models name words) → IsReported kind IsTold s status text → (status ≡ Done) × IsTold s.models text
  told_of s status text none (inl model) = absurd (none model.1.0 model.1.1 model.1.2)
  told_of s status text none (inr told) = told

  pub report_refused : OneRefused → NotToldToo → (bytes : List ℕ) (s : Script) (name words : List ℕ) (status : Status) (text : List ℕ) → IsScript bytes s → IsFirstRefusedFor kind s.models name words
      → IsAnswerBy (IsReported kind IsTold) bytes status text → (status ≡ ModelRefused) × (text ≡ model_line name words)
  report_refused one not_both bytes s name words status text is first answer = refused_of one not_both s name words status text first (to_script (IsReported kind IsTold) bytes s status text is answer)

  pub report_told : (bytes : List ℕ) (s : Script) (status : Status) (text : List ℕ) → IsScript bytes s → ((name words : List ℕ) → ¬ IsFirstRefusedFor kind s.models name words)
      → IsAnswerBy (IsReported kind IsTold) bytes status text → (status ≡ Done) × IsTold s.models text
  report_told bytes s status text is none answer = told_of s status text none (to_script (IsReported kind IsTold) bytes s status text is answer)
