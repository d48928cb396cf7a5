-- What every state that a run from the start reaches keeps.
use Rattle.std.specs.Prelude.{◌≢◌, ◌≤◌, ℕ, List, [], length, IsTrue, All, AllPairs, Contains}
use Rattle.rel_formula.specs.Bounds.{Bounded}
use Rattle.rel_formula.specs.Instance.{IsScenario}
use Rattle.swap_symmetry.specs.Due.{IsDue}
use Rattle.session_rules.specs.States.{State, shown_at, has_ended}

-- a floor above the bottom: a scenario with some cell
pub record IsFloor (p : Bounded) (floor : List ℕ) : Type 0 where
  pub scenario : IsScenario p floor
  pub filled : floor ≢ []

-- what was shown at a floor is due there, each scenario once; where a floor has ended, all that is due there was shown,
-- and it has one proof; at most 64 floors stand above the bottom, none of them empty
pub record IsSound (p : Bounded) (s : State) : Type 0 where
  pub due : (floor : List ℕ) → All (IsDue p floor) (shown_at floor s)
  pub once : (floor : List ℕ) → AllPairs (λ x y. x ≢ y) (shown_at floor s)
  pub complete : (floor : List ℕ) → IsTrue (has_ended floor s) → (x : List ℕ) → IsDue p floor x → Contains (shown_at floor s) x
  pub ends_once : AllPairs (λ x y. x.floor ≢ y.floor) s.ended
  pub floors : All (IsFloor p) s.above
  pub height : length s.above ≤ 64
