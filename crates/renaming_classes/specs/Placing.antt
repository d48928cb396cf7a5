-- A search through the renamings of a scenario, which places one atom after the other.
use Rattle.std.specs.Prelude.{◌≡◌, ◌+◌, ◌≤◌, ℕ, List, [], length, take, slice_index_or, Option}
use Rattle.tuple_core.specs.declared.atom.Atom.{Atom}
use Rattle.rel_formula.specs.Bounds.{Bounded, IsProblem}
use Rattle.rel_formula.specs.Instance.{IsScenario}
use Rattle.rel_formula.specs.Renaming.{IsRenamingOf, IsSymmetric}
use Rattle.swap_symmetry.specs.Order.{IsEarlier}
use Rattle.renaming_classes.specs.Keeping.{AreMovable}
use Rattle.renaming_classes.specs.Orbits.{AreOrbits}

-- the atoms that can be moved, and what cells go together once so many of them are placed
pub record IsPlacing (p : Bounded) (atoms : List Atom) (orbits : List (List (Option ℕ))) : Type 0 where
  pub well : IsProblem p
  pub movable : AreMovable p atoms
  pub long : length orbits ≡ length atoms + 1
  pub together : (m : ℕ) → m ≤ length atoms → AreOrbits p (take m atoms) (slice_index_or orbits m [])

-- a scenario, and the best of its renamings so far
pub record IsSearched (p : Bounded) (s best : List ℕ) : Type 0 where
  pub symmetric : IsSymmetric p
  pub scenario : IsScenario p s
  pub of_best : IsScenario p best
  pub renaming : IsRenamingOf p best s

-- the best one gave way to a renaming of it that isn't later
pub record IsNoLater (p : Bounded) (old new : List ℕ) : Type 0 where
  pub scenario : IsScenario p new
  pub renaming : IsRenamingOf p old new
  pub no_later : IsEarlier old new → ⊥
