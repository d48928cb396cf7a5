-- Predicates and functions that call only such as have a lower rank.
use Rattle.std.specs.Prelude.{◌≡◌, ◌<◌, ℕ, length, slice_get, Some, Contains}
use Rattle.named_model.specs.Model.{CalleeTree, NamedTree}
use Rattle.named_model.specs.Faults.{callees_of}

-- what a predicate or function calls has a lower rank, and ranks are below the number of predicates and functions
pub record IsRank (rank : ℕ → ℕ) (m : NamedTree) : Type 0 where
  pub down : (c q : ℕ) (callee : CalleeTree) → slice_get m.callees c ≡ Some callee → Contains (callees_of callee) q → q < length m.callees → rank q < rank c
  pub below : (c : ℕ) → c < length m.callees → rank c < length m.callees
