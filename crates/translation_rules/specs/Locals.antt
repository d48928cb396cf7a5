-- The clauses that hold in one search alone, and what they leave to be found.
use Rattle.std.specs.Prelude.{ℕ, List, [], ◌∷◌, ◌++◌, map, true, All}
use Rattle.cnf_core.specs.declared.literal.Lit.{Lit}
use Rattle.cnf_core.specs.Literal.{negation_of}
use Rattle.rel_formula.specs.Bounds.{Bounded}
use Rattle.rel_formula.specs.Instance.{IsInstance, Includes}
use Rattle.swap_symmetry.specs.Swaps.{IsSettledBeside}
use Rattle.translation_rules.specs.Free.{is_free_of}
use Rattle.translation_rules.specs.Translation.{Translated, var_of, clauses_of_swaps}

-- the cell is there
abbrev pub literal_of : ℕ → Lit
literal_of cell = record { var = var_of cell; positive = true }

-- each cell of the floor is there
abbrev pub units_of : List ℕ → List (List Lit)
units_of floor = map (λ cell. literal_of cell ∷ []) floor

-- some cell of the scenario is absent
abbrev pub absence_in : List ℕ → List Lit
absence_in scenario = map (λ cell. negation_of (literal_of cell)) scenario

-- no swap that is free of the floor makes anything earlier, the floor's cells are there, and of each blocked scenario some
-- cell is absent
abbrev pub locals_of : Translated → List ℕ → List (List ℕ) → List (List Lit)
locals_of t floor blocked = clauses_of_swaps (is_free_of t.problem floor) t.swaps ++ units_of floor ++ map absence_in blocked

-- what is left to be found at the floor: an instance that contains it, is settled beside it and contains no blocked scenario
pub record IsLeft (p : Bounded) (floor : List ℕ) (blocked : List (List ℕ)) (s : List ℕ) : Type 0 where
  pub instance_of : IsInstance p s
  pub above : Includes s floor
  pub settled : IsSettledBeside p floor s
  pub fresh : All (λ b. ¬ Includes s b) blocked
