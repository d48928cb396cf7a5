-- Sets of the same atoms, and formulas about them.
use Rattle.std.specs.Prelude.{◌≡◌, ◌≢◌, ◌≤◌, ◌<◌, ◌⊎◌, ℕ, List, [], All, AllPairs, length}
use Rattle.tuple_core.specs.declared.atom.Atom.{Atom}
use Rattle.tuple_core.specs.Rows.{Rows, IsRows}
use Rattle.rel_formula.specs.declared.problem.Relation.{Relation}
use Rattle.rel_formula.specs.Kernel.{FormulaTree}
use Rattle.rel_formula.specs.Shape.{IsProper}

-- well formed where so many relations are sets
abbrev pub IsAbout : ℕ → FormulaTree → Type 0
IsAbout count f = (ns : List ℕ) → length ns ≡ count → All (λ n. n ≡ 1) ns → IsProper ns 0 f

-- what is asked of so many relations that are sets
pub record IsAsked (count : ℕ) (f : FormulaTree) : Type 0 where
  pub about : IsAbout count f

-- at most a hundred atoms of the first top-level signature
pub record AreFewAtoms (atoms : Rows) : Type 0 where
  pub rows : IsRows atoms
  pub one : atoms.arity ≡ 1
  pub first : All (All (λ (a : Atom). a.top < 1)) atoms.rows
  pub few : length atoms.rows ≤ 100

-- the relation may have any of the atoms, and has none for sure, or all
pub record IsSet (atoms : Rows) (relation : Relation) : Type 0 where
  pub arity : relation.lower.arity ≡ 1
  pub upper : relation.upper ≡ atoms
  pub lower : (relation.lower.rows ≡ []) ⊎ (relation.lower ≡ atoms)

-- sets of the atoms, each of another name
pub record AreSets (atoms : Rows) (relations : List Relation) : Type 0 where
  pub each : All (IsSet atoms) relations
  pub names : AllPairs (λ r s. r.name ≢ s.name) relations
