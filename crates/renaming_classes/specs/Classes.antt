-- Lists of scenarios and their classes.
use Rattle.std.specs.Prelude.{ℕ, List, [], Contains, AllPairs}
use Rattle.rel_formula.specs.Bounds.{Bounded}
use Rattle.rel_formula.specs.Instance.{IsMinimalAbove}
use Rattle.rel_formula.specs.Renaming.{IsRenamingOf}
use Rattle.swap_symmetry.specs.Order.{IsEarlier}
use Rattle.renaming_classes.specs.Least.{IsLeastRenamingOf}

-- the least members of the classes of these scenarios, each once, the earlier ones first
pub record AreClasses (p : Bounded) (all found : List (List ℕ)) : Type 0 where
  pub each : (t : List ℕ) → Contains found t → (s : List ℕ) × Contains all s × IsLeastRenamingOf p s t
  pub every : (s : List ℕ) → Contains all s → (t : List ℕ) × Contains found t × IsLeastRenamingOf p s t
  pub sorted : AllPairs IsEarlier found

-- minimal instances, among which each minimal instance has a renaming
pub record AreMinimalUpToRenaming (p : Bounded) (all : List (List ℕ)) : Type 0 where
  pub minimal : (s : List ℕ) → Contains all s → IsMinimalAbove p [] s
  pub complete : (s : List ℕ) → IsMinimalAbove p [] s → (t : List ℕ) × Contains all t × IsRenamingOf p s t
