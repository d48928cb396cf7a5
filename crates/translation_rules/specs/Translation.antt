-- What contracts see of a translation, and when it stands for its problem.
use Rattle.std.specs.Prelude.{◌≡◌, ◌↔◌, ◌<◌, ◌+◌, ℕ, Bool, List, length, filter, flat_map, IsTrue, All, AllPairs, Contains}
use Rattle.cnf_core.specs.declared.literal.Lit.{Lit}
use Rattle.cnf_core.specs.Formula.{Formula}
use Rattle.cnf_core.specs.Valuation.{Satisfies}
use Rattle.refutation_check.specs.SearchLog.{IsVarOf}
use Rattle.tuple_core.specs.declared.atom.Atom.{Atom}
use Rattle.rel_formula.specs.Bounds.{Bounded, cells_of}
use Rattle.rel_formula.specs.Instance.{IsScenario, IsInstance}
use Rattle.swap_symmetry.specs.Swaps.{AreNeighbours, NoSwapIsEarlier}
use Rattle.translation_rules.specs.Free.{IsPicked}

-- a swap of two atoms, and the clauses which say that it makes nothing earlier
pub record SwapClauses : Type 0 where
  pub first : Atom
  pub second : Atom
  pub cnf : Formula

-- the problem, the clauses that its instances satisfy, and those of each swap
pub record Translated : Type 0 where
  pub problem : Bounded
  pub cnf : Formula
  pub swaps : List SwapClauses

-- the clauses of the swaps that the test picks, in the order of the swaps
abbrev pub clauses_of_swaps : (Atom → Atom → Bool) → List SwapClauses → List (List Lit)
clauses_of_swaps picks swaps = flat_map (λ x. x.cnf.clauses) (filter (λ x. picks x.first x.second) swaps)

-- the variable of a cell
abbrev pub var_of : ℕ → ℕ
var_of cell = cell + 1

-- the variables of cells are true exactly where the scenario has the cell
abbrev pub HasCellsOf : Bounded → List ℕ → (ℕ → Bool) → Type 0
HasCellsOf p s v = (cell : ℕ) → cell < length (cells_of p) → IsTrue (v (var_of cell)) ↔ Contains s cell

-- some valuation with the cells of the scenario satisfies the clauses
pub record IsSatisfiableAt (p : Bounded) (s : List ℕ) (clauses : List (List Lit)) : Type 0 where
  pub valuation : ℕ → Bool
  pub cells : HasCellsOf p s valuation
  pub satisfied : Satisfies valuation clauses

-- the variable is that of a cell
abbrev pub IsCellVar : Bounded → ℕ → Type 0
IsCellVar p var = (cell : ℕ) × (cell < length (cells_of p)) × (var ≡ var_of cell)

-- the two lists share no variables but those of cells
abbrev pub AreApart : Bounded → List (List Lit) → List (List Lit) → Type 0
AreApart p clauses others = (var : ℕ) → IsVarOf clauses var → IsVarOf others var → IsCellVar p var

-- the translation is that of this problem: a scenario is an instance exactly where its cells can satisfy the clauses; for
-- each set of swaps, none of them makes it earlier exactly where its cells can satisfy the clauses of these swaps; and any
-- two of the lists share variables of cells only
pub record StandsFor (p : Bounded) (t : Translated) : Type 0 where
  pub problem : t.problem ≡ p
  pub instances : (s : List ℕ) → IsScenario p s → IsInstance p s ↔ IsSatisfiableAt p s t.cnf.clauses
  pub settled : (picks : Atom → Atom → Bool) (s : List ℕ) → IsScenario p s → NoSwapIsEarlier p (IsPicked p picks) (Contains s) ↔ IsSatisfiableAt p s (clauses_of_swaps picks t.swaps)
  pub swaps : All (λ x. AreNeighbours p x.first x.second) t.swaps
  pub apart : All (λ x. AreApart p t.cnf.clauses x.cnf.clauses) t.swaps
  pub swaps_apart : AllPairs (λ x y. AreApart p x.cnf.clauses y.cnf.clauses) t.swaps
