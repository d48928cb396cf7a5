-- What a trail that serves many searches has, and what is found on it.
use Rattle.std.specs.Prelude.{◌≡◌, ◌<◌, ◌≤◌, ◌^◌, ◌++◌, ℕ, Bool, List, map, length}
use Rattle.cnf_core.specs.declared.literal.Lit.{Lit}
use Rattle.refutation_check.specs.declared.log.Step.{Step as LogStep}
use Rattle.refutation_check.specs.Chain.{members_of}
use Rattle.sat_trail.specs.Trailed.{Trailed}
use Rattle.sat_core.specs.Answers.{IsModel}
use Rattle.sat_core.specs.Lent.{with_units}
use Rattle.translation_rules.specs.Translation.{Translated}
use Rattle.translation_rules.specs.Locals.{literal_of, units_of}

-- the trail has the clauses of the translation, the units of the scenario's cells and the clauses of the pool, and their variables
pub record Serves (t : Translated) (pool : List LogStep) (scenario : List ℕ) (trail : Trailed) : Type 0 where
  pub clauses_are : trail.clauses ≡ members_of (t.cnf.clauses ++ units_of scenario) pool
  pub enough : t.cnf.vars ≤ trail.vars

-- the valuation has at least these variables, satisfies the clauses, and has the cells
pub record HasCells (vars : ℕ) (clauses : List (List Lit)) (cells : List ℕ) (valuation : List Bool) : Type 0 where
  pub enough : vars ≤ length valuation
  pub small : length valuation < 2 ^ 31
  pub model : IsModel vars (with_units clauses (map literal_of cells)) valuation
