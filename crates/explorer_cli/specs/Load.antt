-- What `load` tells of the runs of the script that it makes: how many sessions there are, and what their lists come to.
use Rattle.std.specs.Prelude.{◌≡◌, ℕ, List, ◌++◌, length, codes, decimal, sum_by, All}
use Rattle.script_text.specs.Printed.{Printed, listed}
use Rattle.script_text.specs.Replies.{PrintedSession, IsOutput}
use Rattle.script_format.specs.declared.entries.SessionEntry.{SessionEntry}
use Rattle.named_model.specs.Model.{NamedTree}
use Rattle.explorer_cli.specs.Runs.{AreRuns}
use Rattle.explorer_cli.specs.Shown.{IsListed}

-- how many scenarios a list has that ends its floor
abbrev pub scenarios_listed : Printed → ℕ
scenarios_listed (listed scenarios) = length scenarios
scenarios_listed r = 0

-- how many such lists a reply is: one or none
abbrev pub floors_ended : Printed → ℕ
floors_ended (listed scenarios) = 1
floors_ended r = 0

-- the sum over all replies of sessions
abbrev pub sum_over : (Printed → ℕ) → List PrintedSession → ℕ
sum_over count runs = sum_by (λ s. sum_by count s.replies) runs

-- a line of a word and a number
abbrev pub number_line : List ℕ → ℕ → List ℕ
number_line word n = word ++ decimal n ++ codes "\n"

-- so many sessions, so many scenarios in lists that end their floors, and so many such lists
abbrev pub summary : ℕ → ℕ → ℕ → List ℕ
summary sessions shown ended = number_line (codes "sessions ") sessions ++ number_line (codes "shown ") shown ++ number_line (codes "ended ") ended

-- the text is the summary of runs of the sessions
abbrev pub IsSummaryOf : ℕ → List SessionEntry → List NamedTree → List ℕ → Type 0
IsSummaryOf budget sessions models text =
    (runs : List PrintedSession) × AreRuns budget sessions models runs × (text ≡ summary (length sessions) (sum_over scenarios_listed runs) (sum_over floors_ended runs))

-- whatever runs print this text, each reply of theirs is a list that ends its floor, or a budget
abbrev pub TellsWholeLists : ℕ → List SessionEntry → List NamedTree → List ℕ → Type 0
TellsWholeLists budget sessions models text = (runs : List PrintedSession) → AreRuns budget sessions models runs → IsOutput runs text → All (λ s. All IsListed s.replies) runs
