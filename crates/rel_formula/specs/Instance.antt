-- Scenarios, instances, and minimal scenarios above a floor. A scenario is a list of cell numbers, in rising order.
use Rattle.std.specs.Prelude.{◌≡◌, ◌<◌, ◌==◌, nat_lt, if◌then◌else◌, ℕ, List, [], ◌∷◌, length, slice_get, Some, All, AllPairs, Contains, ◌⊎◌}
use Rattle.tuple_core.specs.declared.atom.Atom.{Atom}
use Rattle.tuple_core.specs.Operators.{Pred}
use Rattle.rel_formula.specs.Bounds.{Bounded, relation_at, cell_of, cells_of}
use Rattle.rel_formula.specs.Meaning.{Structure, Truth}

-- the numbers are those of cells
abbrev pub AreCells : Bounded → List ℕ → Type 0
AreCells p s = All (λ n. n < length (cells_of p)) s

-- a set of cells, by their numbers in rising order
pub record IsScenario (p : Bounded) (s : List ℕ) : Type 0 where
  pub cells : AreCells p s
  pub rising : AllPairs (λ m n. m < n) s

-- relation r may have the tuple, and the cell's number is among the chosen ones
abbrev pub HasCell : Bounded → (ℕ → Type 0) → ℕ → Pred
HasCell p Chosen r t = (n : ℕ) × Chosen n × (slice_get (cells_of p) n ≡ Some (cell_of r t))

-- an atom stands in a tuple of the scenario's cells
abbrev pub StandsIn : Bounded → List ℕ → Atom → Type 0
StandsIn p s a = (r : ℕ) × (t : List Atom) × HasCell p (Contains s) r t × Contains t a

-- the value of relation r where some cells are chosen: its lower set and the tuples of its chosen cells
abbrev pub InRelation : Bounded → (ℕ → Type 0) → ℕ → Pred
InRelation p Chosen r t = Contains (relation_at p.relations r).lower.rows t ⊎ HasCell p Chosen r t

-- the tuple is in the value of some top-level signature
abbrev pub InSome : List ℕ → (ℕ → Pred) → Pred
InSome tops V t = (r : ℕ) × Contains tops r × V r t

-- what the relations hold where some cells are chosen
abbrev pub structure_of : Bounded → (ℕ → Type 0) → Structure
structure_of p Chosen = record { values = InRelation p Chosen; universe = InSome p.tops (InRelation p Chosen) }

-- the problem's formula is true where these cells are chosen
abbrev pub HoldsWhere : Bounded → (ℕ → Type 0) → Type 0
HoldsWhere p Chosen = Truth (structure_of p Chosen) [] p.formula

-- a scenario in which the problem's formula is true
pub record IsInstance (p : Bounded) (s : List ℕ) : Type 0 where
  pub scenario : IsScenario p s
  pub holds : HoldsWhere p (Contains s)

-- the one scenario has each cell of the other
abbrev pub Includes : List ℕ → List ℕ → Type 0
Includes s floor = (n : ℕ) → Contains floor n → Contains s n

-- an instance that contains the floor, such that no instance that contains the floor is a proper part of it
pub record IsMinimalAbove (p : Bounded) (floor s : List ℕ) : Type 0 where
  pub instance_of : IsInstance p s
  pub above : Includes s floor
  pub least : (t : List ℕ) → IsInstance p t → Includes t floor → Includes s t → Includes t s

-- the numbers with n among them, in rising order where they rise
abbrev pub with_cell : ℕ → List ℕ → List ℕ
with_cell n [] = n ∷ []
with_cell n (m ∷ ms) = if nat_lt n m then n ∷ m ∷ ms else (if n == m then m ∷ ms else m ∷ with_cell n ms)
