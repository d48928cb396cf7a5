-- Which status and text the answers to bytes have.
use Rattle.std.proofs.Common.{◌≡◌, ◌⊎◌, ℕ, List, ap, subst, ◌∙◌, inl, inr}
use Rattle.outside_io.specs.declared.status.Status.{Status}
use Rattle.outside_io.specs.declared.status.Status.TheVariants.{Done, InputRefused, ModelRefused}
use Rattle.script_format.specs.declared.entries.Script.{Script}
use Rattle.script_format.specs.declared.entries.ModelEntry.{ModelEntry}
use Rattle.script_format.specs.declared.entries.SessionEntry.{SessionEntry}
use Rattle.script_format.specs.declared.fault.ScriptFault.{ScriptFault}
use Rattle.script_format.specs.Script.{IsScript, HasFault}
use Rattle.script_format.proofs.UniqueScripts.{one_script}
use Rattle.script_text.specs.Faults.{script_line, fault_words}
use Rattle.named_model.specs.Model.{NamedTree}
use Rattle.served_models.specs.declared.purposes.Purpose.{Purpose}
use Rattle.served_models.specs.Served.{AreUsable, IsFirstRefused, model_line}
use Rattle.explorer_cli.specs.Outcome.{IsModelAnswer}
use Rattle.explorer_cli.proofs.AnswersBy.{IsAnswerBy, fault_by, to_script}

-- what the laws of models say, as they are used here
abbrev pub OneList : Type 0
OneList = (purpose : Purpose) (sessions : List SessionEntry) (entries : List ModelEntry) (ms ns : List NamedTree) → AreUsable purpose sessions 0 entries ms → AreUsable purpose sessions 0 entries ns → ms ≡ ns

abbrev pub OneFirstRefused : Type 0
OneFirstRefused = (purpose : Purpose) (sessions : List SessionEntry) (entries : List ModelEntry) (name words others more : List ℕ) → IsFirstRefused purpose sessions entries name words → IsFirstRefused purpose sessions entries others more → (name ≡ others) × (words ≡ more)

abbrev pub NotBoth : Type 0
NotBoth = (purpose : Purpose) (sessions : List SessionEntry) (entries : List ModelEntry) (ms : List NamedTree) (name words : List ℕ) → AreUsable purpose sessions 0 entries ms → IsFirstRefused purpose sessions entries name words → ⊥

-- a script is answered with its first model that can't be used for this, or with what is told of it on its models
abbrev pub IsToldOn : Purpose → (Script → List NamedTree → List ℕ → Type 0) → Script → Status → List ℕ → Type 0
IsToldOn purpose IsTold s status text =
    IsModelAnswer (IsFirstRefused purpose s.sessions s.models) status text ⊎ ((status ≡ Done) × ((models : List NamedTree) × AreUsable purpose s.sessions 0 s.models models × IsTold s models text))

module _ (one_list : OneList) (one_first_refused : OneFirstRefused) (not_both : NotBoth) (purpose : Purpose) (IsTold : Script → List NamedTree → List ℕ → Type 0) where
  model_of : (s : Script) (name words : List ℕ) (status : Status) (text : List ℕ) → IsFirstRefused purpose s.sessions s.models name words → IsToldOn purpose IsTold s status text
      → (status ≡ ModelRefused) × (text ≡ model_line name words)
  model_of s name words status text first (inl model) =
      let same = one_first_refused purpose s.sessions s.models model.1.0 model.1.1 name words model.1.2 first in
      (model.0, model.1.3 ∙ ap (λ (n : List ℕ). model_line n model.1.1) same.0 ∙ ap (model_line name) same.1)
  model_of s name words status text first (inr told) = absurd (not_both purpose s.sessions s.models told.1.0 name words told.1.1 first)

  told_of : (s : Script) (models : List NamedTree) (status : Status) (text : List ℕ) → AreUsable purpose s.sessions 0 s.models models → IsToldOn purpose IsTold s status text → (status ≡ Done) × IsTold s models text
  told_of s models status text are (inl model) = absurd (not_both purpose s.sessions s.models models model.1.0 model.1.1 are model.1.2)
  told_of s models status text are (inr told) =
      (told.0, subst (λ (ms : List NamedTree). IsTold s ms text) (one_list purpose s.sessions s.models told.1.0 models told.1.1 are) told.1.2)

  pub fault_answer : (bytes : List ℕ) (f : ScriptFault) (status : Status) (text : List ℕ) → HasFault bytes f → IsAnswerBy (IsToldOn purpose IsTold) bytes status text → (status ≡ InputRefused) × (text ≡ script_line (fault_words f))
  fault_answer bytes f status text has answer = fault_by (IsToldOn purpose IsTold) bytes f status text has answer

  pub model_answer : (bytes : List ℕ) (s : Script) (name words : List ℕ) (status : Status) (text : List ℕ) → IsScript bytes s → IsFirstRefused purpose s.sessions s.models name words
      → IsAnswerBy (IsToldOn purpose IsTold) bytes status text → (status ≡ ModelRefused) × (text ≡ model_line name words)
  model_answer bytes s name words status text is first answer = model_of s name words status text first (to_script (IsToldOn purpose IsTold) bytes s status text is answer)

  pub told_answer : (bytes : List ℕ) (s : Script) (models : List NamedTree) (status : Status) (text : List ℕ) → IsScript bytes s → AreUsable purpose s.sessions 0 s.models models
      → IsAnswerBy (IsToldOn purpose IsTold) bytes status text → (status ≡ Done) × IsTold s models text
  told_answer bytes s models status text is are answer = told_of s models status text are (to_script (IsToldOn purpose IsTold) bytes s status text is answer)

-- bytes that are one script say one list of models that can be used
pub one_list_of : OneList → (purpose : Purpose) (bytes : List ℕ) (s t : Script) (ms ns : List NamedTree) → IsScript bytes s → IsScript bytes t → AreUsable purpose s.sessions 0 s.models ms → AreUsable purpose t.sessions 0 t.models ns → ms ≡ ns
one_list_of one_list purpose bytes s t ms ns is other us vs =
    one_list purpose s.sessions s.models ms ns us (subst (λ (r : Script). AreUsable purpose r.sessions 0 r.models ns) (one_script bytes t s other is) vs)
