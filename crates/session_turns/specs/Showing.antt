-- Scenarios that one command shows, one after the other.
use Rattle.std.specs.Prelude.{◌≡◌, ◌+◌, ℕ, List, [], ◌∷◌, ◌++◌, length}
use Rattle.rel_formula.specs.Bounds.{Bounded}
use Rattle.session_rules.specs.States.{State, top_floor, shown_here}
use Rattle.session_rules.specs.Steps.{MachineRun, state_after}
use Rattle.session_rules.specs.Transcripts.{showings}

-- the number that the next scenario has
abbrev pub next_number : State → ℕ
next_number s = length (shown_here s) + 1

-- these scenarios were shown, one after the other, which led from the old state to the new one, at the same floor
pub record HasShown (p : Bounded) (old : State) (scenarios : List (List ℕ)) (new : State) : Type 0 where
  pub run : MachineRun p old (showings (next_number old) scenarios)
  pub state : new ≡ state_after old (showings (next_number old) scenarios)
  pub here : shown_here new ≡ shown_here old ++ scenarios
  pub floor : top_floor new ≡ top_floor old

-- where there is a scenario, this is the number of the first
abbrev pub IsFirst : State → List (List ℕ) → ℕ → Type 0
IsFirst old [] number = Unit {0}
IsFirst old (s ∷ ss) number = number ≡ next_number old
