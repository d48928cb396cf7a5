-- Sets of numbers.
use Rattle.std.specs.Prelude.{◌<◌, ℕ, List, All, AllPairs}

-- a set of numbers below n, in rising order
pub record IsRisingBelow (n : ℕ) (s : List ℕ) : Type 0 where
  pub below : All (λ k. k < n) s
  pub rising : AllPairs (λ j k. j < k) s
