-- What the numbers of floors stand for.
use Rattle.std.specs.Prelude.{◌≡◌, ◌≢◌, ◌<◌, ◌==◌, ℕ, Bool, List, [], ◌∷◌, map, filter, length, slice_get, slice_index_or, Some, All, AllPairs}
use Rattle.std.specs.List.{list_any}
use Rattle.session_rules.specs.States.{State, ShownAt, EndedAt}
use Rattle.session_state.specs.declared.session_store.floors.Found.{Found}
use Rattle.session_state.specs.declared.session_store.floors.Ended.{Ended}

-- the floor of a number
abbrev pub floor_at : List (List ℕ) → ℕ → List ℕ
floor_at floors n = slice_index_or floors n []

-- the scenarios that were found at the floor of this number, in order
abbrev pub scenarios_at : ℕ → List Found → List (List ℕ)
scenarios_at floor found = map (λ x. x.scenario) (filter (λ x. x.floor == floor) found)

-- what was found, with the floors for their numbers
abbrev pub found_there : List (List ℕ) → List Found → List ShownAt
found_there floors found = map (λ x. record { floor = floor_at floors x.floor; scenario = x.scenario }) found

abbrev pub ended_there : List (List ℕ) → List Ended → List EndedAt
ended_there floors ended = map (λ x. record { floor = floor_at floors x.floor; proof = x.proof }) ended

-- whether the floor of this number has ended
abbrev pub is_ended : ℕ → List Ended → Bool
is_ended floor ended = list_any (λ x. x.floor == floor) ended

-- the state that these are
abbrev pub state_of : List (List ℕ) → List ℕ → List Found → List Ended → ℕ → State
state_of floors above shown ended budget = record {
  above = map (floor_at floors) above;
  shown = found_there floors shown;
  ended = ended_there floors ended;
  budget = budget;
}

-- the bottom is the first floor, each floor has one number, and each number is one of a floor
pub record AreNumbered (floors : List (List ℕ)) (above : List ℕ) (shown : List Found) (ended : List Ended) (copies : List Found) : Type 0 where
  pub bottom : slice_get floors 0 ≡ Some []
  pub distinct : AllPairs (λ x y. x ≢ y) floors
  pub above_in : All (λ n. n < length floors) above
  pub shown_in : All (λ x. x.floor < length floors) shown
  pub ended_in : All (λ x. x.floor < length floors) ended
  pub copies_in : All (λ x. x.floor < length floors) copies
