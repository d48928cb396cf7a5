-- What a session is, and when it is one on a problem.
use Rattle.std.specs.Prelude.{◌≤◌, ℕ, length, All}
use Rattle.rel_formula.specs.Bounds.{Bounded}
use Rattle.session_rules.specs.States.{shown_at}
use Rattle.session_rules.specs.Steps.{IsReached}
use Rattle.session_rules.specs.Proofs.{IsCopy}
use Rattle.session_state.specs.Store.Stored.{Stored}

-- the session's number, the key of its problem, and what it keeps
pub record InSession : Type 0 where
  pub owner : ℕ
  pub key : ℕ
  pub kept : Stored

-- what is kept comes from a run over the problem, and each copy is one of what was shown at its floor
pub record FitsProblem (p : Bounded) (kept : Stored) : Type 0 where
  pub reached : IsReached p kept.state
  pub copies : All (λ x. IsCopy p x.floor (shown_at x.floor kept.state) x.scenario) kept.copies

-- what every session keeps: at most a million copies, and a budget of at most 100,000
pub record IsKept (kept : Stored) : Type 0 where
  pub few_copies : length kept.copies ≤ 1000000
  pub small_budget : kept.state.budget ≤ 100000
