-- Swaps of two neighbouring atoms, and what is settled: no swap makes it earlier.
use Rattle.std.specs.Prelude.{◌≡◌, ◌<◌, ℕ, List, map, slice_get, Some, Contains}
use Rattle.tuple_core.specs.declared.atom.Atom.{Atom}
use Rattle.tuple_core.specs.Swap.{swap_atoms}
use Rattle.rel_formula.specs.Bounds.{Bounded, IsAtomOf, cell_of, cells_of}
use Rattle.rel_formula.specs.Instance.{HasCell, StandsIn}
use Rattle.swap_symmetry.specs.Order.{ComesBefore}

-- two atoms of one signature with no atom of it between them
pub record AreNeighbours (p : Bounded) (a b : Atom) : Type 0 where
  pub first : IsAtomOf p a
  pub second : IsAtomOf p b
  pub one_top : a.top ≡ b.top
  pub rising : a.place < b.place
  pub next : (c : Atom) → IsAtomOf p c → c.top ≡ a.top → a.place < c.place → c.place < b.place → ⊥

-- the swap takes the cell of this number to a chosen one
abbrev pub IsTakenInto : Bounded → Atom → Atom → (ℕ → Type 0) → ℕ → Type 0
IsTakenInto p a b Chosen n = (r : ℕ) × (row : List Atom) × (slice_get (cells_of p) n ≡ Some (cell_of r row)) × HasCell p Chosen r (map (swap_atoms a b) row)

-- the swap makes the chosen cells earlier
abbrev pub SwapIsEarlier : Bounded → Atom → Atom → (ℕ → Type 0) → Type 0
SwapIsEarlier p a b Chosen = ComesBefore (IsTakenInto p a b Chosen) Chosen

-- no swap of the set W does
abbrev pub NoSwapIsEarlier : Bounded → (Atom → Atom → Type 0) → (ℕ → Type 0) → Type 0
NoSwapIsEarlier p W Chosen = (a b : Atom) → W a b → SwapIsEarlier p a b Chosen → ⊥

-- no swap of two neighbours makes the scenario earlier
abbrev pub IsSettled : Bounded → List ℕ → Type 0
IsSettled p s = NoSwapIsEarlier p (AreNeighbours p) (Contains s)

-- neither atom stands in the floor
abbrev pub IsFreeOf : Bounded → List ℕ → Atom → Atom → Type 0
IsFreeOf p floor a b = (StandsIn p floor a → ⊥) × (StandsIn p floor b → ⊥)

-- no swap of two neighbours that is free of the floor makes the scenario earlier
abbrev pub IsSettledBeside : Bounded → List ℕ → List ℕ → Type 0
IsSettledBeside p floor s = NoSwapIsEarlier p (λ a b. AreNeighbours p a b × IsFreeOf p floor a b) (Contains s)
