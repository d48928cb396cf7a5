-- The least member of a class: a scenario none of whose renamings is earlier.
use Rattle.std.specs.Prelude.{ℕ, List}
use Rattle.rel_formula.specs.Bounds.{Bounded}
use Rattle.rel_formula.specs.Instance.{IsScenario}
use Rattle.rel_formula.specs.Renaming.{IsRenamingOf}
use Rattle.swap_symmetry.specs.Order.{IsEarlier}

-- no renaming of the scenario is earlier
pub record IsLeast (p : Bounded) (t : List ℕ) : Type 0 where
  pub scenario : IsScenario p t
  pub none_earlier : (u : List ℕ) → IsScenario p u → IsRenamingOf p t u → IsEarlier u t → ⊥

-- it is the least of the renamings of the first scenario
pub record IsLeastRenamingOf (p : Bounded) (s t : List ℕ) : Type 0 where
  pub renaming : IsRenamingOf p s t
  pub least : IsLeast p t
