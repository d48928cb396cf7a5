-- Renamings that keep some atoms, and the atoms that renamings can move.
use Rattle.std.specs.Prelude.{◌≡◌, ◌⊎◌, ℕ, List, Contains}
use Rattle.tuple_core.specs.declared.atom.Atom.{Atom}
use Rattle.rel_formula.specs.Bounds.{Bounded, IsAtomOf}
use Rattle.rel_formula.specs.Instance.{IsScenario}
use Rattle.rel_formula.specs.Renaming.{IsRenaming, IsImage}
use Rattle.swap_symmetry.specs.Order.{IsEarlier}

-- atoms of the problem; each other atom of it is the only one of its signature
pub record AreMovable (p : Bounded) (atoms : List Atom) : Type 0 where
  pub members : (a : Atom) → Contains atoms a → IsAtomOf p a
  pub others : (a : Atom) → IsAtomOf p a → Contains atoms a ⊎ ((b : Atom) → IsAtomOf p b → b.top ≡ a.top → b ≡ a)

-- each of these atoms stays where it is
abbrev pub Keeps : List Atom → (Atom → Atom) → Type 0
Keeps kept f = (a : Atom) → Contains kept a → f a ≡ a

-- some renaming that keeps these atoms takes the first scenario to the second
pub record IsRenamingKeeping (p : Bounded) (kept : List Atom) (s t : List ℕ) : Type 0 where
  pub there : Atom → Atom
  pub back : Atom → Atom
  pub renaming : IsRenaming p there back
  pub image : IsImage p there s t
  pub keeps : Keeps kept there

-- and puts the atom b in the place of a
pub record IsRenamingPutting (p : Bounded) (kept : List Atom) (b a : Atom) (s t : List ℕ) : Type 0 where
  pub there : Atom → Atom
  pub back : Atom → Atom
  pub renaming : IsRenaming p there back
  pub image : IsImage p there s t
  pub keeps : Keeps kept there
  pub puts : there b ≡ a

-- no renaming of the scenario that keeps these atoms is earlier than the best one
abbrev pub NoneKeeping : Bounded → List Atom → List ℕ → List ℕ → Type 0
NoneKeeping p kept s best = (u : List ℕ) → IsScenario p u → IsRenamingKeeping p kept s u → IsEarlier u best → ⊥

-- nor one that puts b in the place of a
abbrev pub NonePutting : Bounded → List Atom → Atom → Atom → List ℕ → List ℕ → Type 0
NonePutting p kept b a s best = (u : List ℕ) → IsScenario p u → IsRenamingPutting p kept b a s u → IsEarlier u best → ⊥
