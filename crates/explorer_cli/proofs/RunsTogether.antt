-- Runs that a journal tells, each by itself.
use Rattle.std.proofs.Common.{◌+◌, ℕ, List, [], ◌∷◌}
use Rattle.std.specs.List.{AllZip}
use Rattle.named_model.specs.Model.{NamedTree}
use Rattle.script_format.specs.declared.entries.SessionEntry.{SessionEntry}
use Rattle.script_text.specs.Replies.{PrintedSession}
use Rattle.explorer_cli.specs.Runs.{Translations, IsRunAmong, Together, TellsRuns}

pub all_among : (all : Together) (number budget : ℕ) (models : List NamedTree) (over : Translations) (sessions : List SessionEntry) (runs : List PrintedSession)
    → TellsRuns all number budget models over sessions runs → AllZip (IsRunAmong budget models over) sessions runs
all_among all number budget models over [] [] tells = tt
all_among all number budget models over [] (s ∷ runs) tells = absurd tells
all_among all number budget models over (x ∷ sessions) [] tells = absurd tells
all_among all number budget models over (x ∷ sessions) (s ∷ runs) tells = (tells.0.0, all_among all (number + 1) budget models over sessions runs tells.1)
