-- The swaps of a translation, each with clauses over fresh variables of its own.
use Rattle.std.specs.Prelude.{◌↔◌, ◌⊎◌, ◌+◌, ◌*◌, ◌<◌, ◌≤◌, ℕ, ⊤, List, [], ◌∷◌, map, max, length, Contains}
use Rattle.tuple_core.specs.declared.atom.Atom.{Atom}
use Rattle.cnf_core.specs.Formula.{Formula}
use Rattle.refutation_check.specs.SearchLog.{IsVarOf}
use Rattle.rel_formula.specs.Bounds.{Bounded, cells_of}
use Rattle.swap_symmetry.specs.Swaps.{SwapIsEarlier}
use Rattle.translation_rules.specs.Translation.{SwapClauses, Translated, IsSatisfiableAt, IsCellVar}

-- each pair of atoms with its clauses
abbrev pub swaps_of : List (Atom × Atom) → List Formula → List SwapClauses
swaps_of [] cnfs = []
swaps_of (pair ∷ pairs) [] = []
swaps_of (pair ∷ pairs) (cnf ∷ cnfs) = record { first = pair.0; second = pair.1; cnf = cnf } ∷ swaps_of pairs cnfs

abbrev pub pair_of : SwapClauses → Atom × Atom
pair_of x = (x.first, x.second)

-- the clauses say that the swap makes no scenario earlier, over the variables of cells and of fresh ones behind `last`
pub record IsNext (p : Bounded) (last : ℕ) (x : SwapClauses) : Type 0 where
  pub says : (s : List ℕ) → (¬ SwapIsEarlier p x.first x.second (Contains s)) ↔ IsSatisfiableAt p s x.cnf.clauses
  pub variables : (var : ℕ) → IsVarOf x.cnf.clauses var → IsCellVar p var ⊎ ((last < var) × (var ≤ x.cnf.vars))
  pub some : last < x.cnf.vars
  pub few_variables : x.cnf.vars ≤ last + (length (cells_of p) + 1)
  pub few_clauses : length x.cnf.clauses ≤ 3 * length (cells_of p) + 1

-- the fresh variables of each swap come behind those of the swap before; the first ones behind `last`
abbrev pub AreNumbered : Bounded → ℕ → List SwapClauses → Type 0
AreNumbered p last [] = ⊤
AreNumbered p last (x ∷ xs) = IsNext p last x × AreNumbered p x.cnf.vars xs

-- the highest of this variable and of those that the formulas are over
abbrev pub highest_var : ℕ → List Formula → ℕ
highest_var var [] = var
highest_var var (f ∷ fs) = max f.vars (highest_var var fs)

-- the highest variable of the problem's clauses and of those of the swaps
abbrev pub vars_of : Translated → ℕ
vars_of t = highest_var t.cnf.vars (map (λ x. x.cnf) t.swaps)
