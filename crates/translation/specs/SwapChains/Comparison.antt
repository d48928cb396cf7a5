-- What a clause and a comparison of two cells add to clauses.
use Rattle.std.specs.Prelude.{◌≡◌, ◌↔◌, ◌⊎◌, ◌+◌, ◌≤◌, ℕ, Bool, false, Option, Some, None, List, length, Contains, IsTrue}
use Rattle.cnf_core.specs.declared.literal.Lit.{Lit}
use Rattle.cnf_core.specs.Valuation.{clause_value, Satisfies}
use Rattle.refutation_check.specs.SearchLog.{IsVarOf}
use Rattle.translation_rules.specs.Translation.{var_of}

-- the new clauses say what the old ones say, and that one of the literals is true
pub record AddsClause (lits : List Lit) (old new : List (List Lit)) : Type 0 where
  pub means : (v : ℕ → Bool) → Satisfies v new ↔ (Satisfies v old × IsTrue (clause_value v lits))
  pub few : length new ≤ length old + 1
  pub vars : (var : ℕ) → IsVarOf new var → IsVarOf old var ⊎ ((l : Lit) × Contains lits l × (l.var ≡ var))

-- whether the image is chosen, where there is one
abbrev pub image_value : (ℕ → Bool) → Option ℕ → Bool
image_value v None = false
image_value v (Some cell) = v (var_of cell)

-- where all were alike so far, the image is chosen only if the cell is, and where both or neither are, all are alike
abbrev pub AreCompared : (ℕ → Bool) → ℕ → ℕ → Option ℕ → Type 0
AreCompared v so_far cell image = IsTrue (v so_far) →
    (IsTrue (image_value v image) → IsTrue (v (var_of cell))) × (image_value v image ≡ v (var_of cell) → IsTrue (v (so_far + 1)))

-- the variables of which a comparison speaks
abbrev pub IsComparedVar : ℕ → ℕ → Option ℕ → ℕ → Type 0
IsComparedVar so_far cell image var =
    (var ≡ so_far) ⊎ ((var ≡ so_far + 1) ⊎ ((var ≡ var_of cell) ⊎ ((m : ℕ) × (image ≡ Some m) × (var ≡ var_of m))))

-- the new clauses say what the old ones say, and compare the cell with its image
pub record Compares (so_far cell : ℕ) (image : Option ℕ) (old new : List (List Lit)) : Type 0 where
  pub means : (v : ℕ → Bool) → Satisfies v new ↔ (Satisfies v old × AreCompared v so_far cell image)
  pub few : length new ≤ length old + 3
  pub vars : (var : ℕ) → IsVarOf new var → IsVarOf old var ⊎ IsComparedVar so_far cell image var
