-- What a chain of comparisons says: that a swap makes no cells earlier.
use Rattle.std.specs.Prelude.{◌≡◌, ◌↔◌, ◌⊎◌, ◌+◌, ◌*◌, ◌<◌, ◌≤◌, ℕ, Bool, List, length, IsTrue}
use Rattle.cnf_core.specs.declared.literal.Lit.{Lit}
use Rattle.cnf_core.specs.Valuation.{Satisfies}
use Rattle.refutation_check.specs.SearchLog.{IsVarOf}
use Rattle.tuple_core.specs.declared.atom.Atom.{Atom}
use Rattle.rel_formula.specs.Bounds.{Bounded, cells_of}
use Rattle.swap_symmetry.specs.Swaps.{IsTakenInto, SwapIsEarlier}
use Rattle.translation_rules.specs.Translation.{var_of, IsCellVar}

-- the cells whose variables are true
abbrev pub chosen_by : (ℕ → Bool) → ℕ → Type 0
chosen_by v cell = IsTrue (v (var_of cell))

-- below the count, a cell is chosen exactly where the swap takes it to a chosen one
abbrev pub AreAlikeBelow : Bounded → Atom → Atom → (ℕ → Type 0) → ℕ → Type 0
AreAlikeBelow p a b Chosen count = (m : ℕ) → m < count → IsTakenInto p a b Chosen m ↔ Chosen m

-- the variables are those of cells, or from the first one to the last
abbrev pub IsFreshOrCell : Bounded → ℕ → ℕ → ℕ → Type 0
IsFreshOrCell p first last var = IsCellVar p var ⊎ ((first ≤ var) × (var ≤ last))

-- the new clauses say what the old ones say, and compare one cell with its image, where all are alike so far
pub record ComparesCell (p : Bounded) (a b : Atom) (cell so_far next : ℕ) (old new : List (List Lit)) : Type 0 where
  pub low : so_far ≤ next
  pub high : next ≤ so_far + 1
  pub sound : (v : ℕ → Bool) → Satisfies v new → Satisfies v old × (IsTrue (v so_far) → AreAlikeBelow p a b (chosen_by v) cell →
      (IsTakenInto p a b (chosen_by v) cell → chosen_by v cell) × (AreAlikeBelow p a b (chosen_by v) (cell + 1) → IsTrue (v next)))
  pub complete : (v : ℕ → Bool) → Satisfies v old → (IsTrue (v so_far) → IsTakenInto p a b (chosen_by v) cell → chosen_by v cell) →
      (w : ℕ → Bool) × ((var : ℕ) → var ≤ so_far → w var ≡ v var) × Satisfies w new ×
      (IsTrue (w next) → IsTrue (v so_far) × (AreAlikeBelow p a b (chosen_by v) cell → IsTakenInto p a b (chosen_by v) cell ↔ chosen_by v cell))
  pub few : length new ≤ length old + 3
  pub vars : (var : ℕ) → IsVarOf new var → IsVarOf old var ⊎ IsFreshOrCell p so_far next var

-- the new clauses say what the old ones say, and that the swap makes the chosen cells no earlier
pub record ForbidsSwap (p : Bounded) (a b : Atom) (first last : ℕ) (old new : List (List Lit)) : Type 0 where
  pub low : first ≤ last
  pub high : last ≤ first + length (cells_of p)
  pub sound : (v : ℕ → Bool) → Satisfies v new → Satisfies v old × (¬ SwapIsEarlier p a b (chosen_by v))
  pub complete : (v : ℕ → Bool) → Satisfies v old → ¬ SwapIsEarlier p a b (chosen_by v) →
      (w : ℕ → Bool) × ((var : ℕ) → var < first → w var ≡ v var) × Satisfies w new
  pub few : length new ≤ length old + (3 * length (cells_of p) + 1)
  pub vars : (var : ℕ) → IsVarOf new var → IsVarOf old var ⊎ IsFreshOrCell p first last var
