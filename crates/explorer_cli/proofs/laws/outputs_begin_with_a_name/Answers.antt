use Rattle.std.proofs.Common.{◌≡◌, ◌++◌, ◌∙◌, ℕ, List, [], ◌∷◌, codes, ap, append_assoc}
use Rattle.std.specs.List.{AllZip}
use Rattle.named_model.specs.Model.{NamedTree}
use Rattle.script_format.specs.declared.entries.SessionEntry.{SessionEntry}
use Rattle.script_text.specs.Replies.{PrintedSession, IsOutput}
use Rattle.explorer_cli.specs.Runs.{Translations, IsRunAmong}
use Rattle.explorer_cli.proofs.RunsTogether.{all_among}
use Rattle.explorer_cli.proofs.laws.outputs_begin_with_a_name.Goals as goal

begins : (budget : ℕ) (models : List NamedTree) (over : Translations) (x : SessionEntry) (sessions : List SessionEntry) (runs : List PrintedSession) (text : List ℕ)
    → AllZip (IsRunAmong budget models over) (x ∷ sessions) runs → IsOutput runs text → (rest : List ℕ) × (text ≡ codes "== " ++ x.name ++ codes "\n" ++ rest)
begins budget models over x sessions [] text zip is = absurd zip
begins budget models over x sessions (s ∷ runs) text zip is = (
  is.2.0 ++ is.1,
  is.4 ∙ ap (λ first. first ++ is.1) is.2.2 ∙ append_assoc (codes "== " ++ s.name ++ codes "\n") is.2.0 is.1
      ∙ ap (λ name. codes "== " ++ name ++ codes "\n" ++ (is.2.0 ++ is.1)) (ap (λ (r : PrintedSession). r.name) zip.0.3.is),
)

pub returns : goal.returns
returns c budget x sessions models text are =
    begins budget models are.1.0 x sessions are.0 text (all_among are.1.1 1 budget models are.1.0 (x ∷ sessions) are.0 are.1.3) are.2
