-- What a pool of shared steps may hold, and how many more steps fit into it.
use Rattle.std.specs.Prelude.{◌+◌, ◌-◌, ◌≤◌, ◌++◌, ℕ, List, length, take, sum_by}
use Rattle.refutation_check.specs.declared.log.Step.{Step}
use Rattle.refutation_check.specs.Lift.{lifted}
use Rattle.refutation_check.specs.Pool.{most_pool_steps}

-- how many literals and hints the steps have together
abbrev pub numbers_in : List Step → ℕ
numbers_in steps = sum_by (λ s. length s.clause + length s.hints) steps

-- a pool has at most so many literals and hints together
abbrev pub most_pool_numbers : ℕ
most_pool_numbers = 2000000

-- at most 20,000 steps, with at most 2,000,000 literals and hints together
pub record IsWithinLimits (pool : List Step) : Type 0 where
  pub few_steps : length pool ≤ most_pool_steps
  pub few_numbers : numbers_in pool ≤ most_pool_numbers

-- so many of the steps, the first ones, can come behind the pool within its limits, and no more
pub record IsLongestFit (pool steps : List Step) (n : ℕ) : Type 0 where
  pub in_range : n ≤ length steps
  pub fits : IsWithinLimits (pool ++ take n steps)
  pub longest : (more : ℕ) → more ≤ length steps → IsWithinLimits (pool ++ take more steps) → more ≤ n

-- steps that go on from the first so many steps of a pool over so many clauses, with hints that make room for the
-- other steps of the pool
abbrev pub moved_behind : ℕ → ℕ → List Step → List Step → List Step
moved_behind clauses at pool steps = lifted (clauses + at) (length pool - at) steps
