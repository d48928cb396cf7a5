-- Steps that a search has from other searches over the same translation.
use Rattle.std.specs.Prelude.{◌≤◌, List, length}
use Rattle.refutation_check.specs.declared.log.Step.{Step as LogStep}
use Rattle.refutation_check.specs.Chain.{IsAccepted}
use Rattle.refutation_check.specs.Pool.{most_pool_steps}
use Rattle.translation_rules.specs.Translation.{Translated}

-- the steps are an accepted log over the translation's clauses, and no more than searches share
pub record IsImport (t : Translated) (pool : List LogStep) : Type 0 where
  pub accepted : IsAccepted t.cnf.clauses pool
  pub few : length pool ≤ most_pool_steps
