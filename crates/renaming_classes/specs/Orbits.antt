-- Cells that renamings take to each other.
use Rattle.std.specs.Prelude.{◌≡◌, ◌==◌, if◌then◌else◌, ℕ, List, [], ◌∷◌, slice_get, Option, Some}
use Rattle.std.specs.List.{list_any}
use Rattle.tuple_core.specs.declared.atom.Atom.{Atom}
use Rattle.tuple_core.specs.Swap.{atom_eq}
use Rattle.rel_formula.specs.Bounds.{Bounded}
use Rattle.rel_formula.specs.Renaming.{IsRenaming, IsCellImage}
use Rattle.renaming_classes.specs.Keeping.{Keeps}

-- the first of the atoms that is of the signature
abbrev pub first_of : List Atom → ℕ → Atom
first_of [] top = record { top = top; place = 0 }
first_of (a ∷ atoms) top = if a.top == top then a else first_of atoms top

-- a kept atom for itself, and for any other one the first atom of its signature that isn't kept
abbrev pub stand_in : List Atom → List Atom → Atom → Atom
stand_in kept others a = if list_any (λ b. atom_eq b a) kept then a else first_of others a.top

-- a renaming that keeps these atoms takes a cell to one with the same number in the list
abbrev pub AreOrbits : Bounded → List Atom → List (Option ℕ) → Type 0
AreOrbits p kept leaders = (f g : Atom → Atom) → IsRenaming p f g → Keeps kept f
    → (n m c : ℕ) → IsCellImage p f n m → slice_get leaders n ≡ Some (Some c) → slice_get leaders m ≡ Some (Some c)
