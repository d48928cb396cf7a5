-- What a session is to be shown.
use Rattle.std.specs.Prelude.{ℕ, List, []}
use Rattle.rel_formula.specs.Bounds.{Bounded}
use Rattle.rel_formula.specs.Instance.{IsMinimalAbove}
use Rattle.rel_formula.specs.Renaming.{IsRenamingOf, IsRenamingBeside}
use Rattle.swap_symmetry.specs.Swaps.{IsSettledBeside}

-- minimal above the floor, and settled beside it
pub record IsDue (p : Bounded) (floor s : List ℕ) : Type 0 where
  pub minimal : IsMinimalAbove p floor s
  pub settled : IsSettledBeside p floor s

-- a renaming of the scenario is due at the empty floor
abbrev pub HasDueRenaming : Bounded → List ℕ → Type 0
HasDueRenaming p s = (t : List ℕ) × IsRenamingOf p s t × IsDue p [] t

-- a renaming of the scenario that keeps the floor's atoms is due at the floor
abbrev pub HasDueRenamingBeside : Bounded → List ℕ → List ℕ → Type 0
HasDueRenamingBeside p floor s = (t : List ℕ) × IsRenamingBeside p floor s t × IsDue p floor t
