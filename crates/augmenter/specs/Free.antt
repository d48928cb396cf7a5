-- Logs whose steps rest on some of the members alone.
use Rattle.std.specs.Prelude.{◌≡◌, ◌++◌, Bool, List, map}
use Rattle.refutation_check.specs.declared.log.Step.{Step}
use Rattle.refutation_check.specs.Renumbering.{free_steps}
use Rattle.refutation_check.specs.SearchLog.{IsDirect}

-- no hint of a step, save of a last empty one, followed down, names any but the members that are kept: of the steps before it,
-- all are free
pub record IsFreeButLast (kept : List Bool) (log : List Step) : Type 0 where
  pub steps : List Step
  pub end : List Step
  pub in_order : log ≡ steps ++ end
  pub last : IsDirect end
  pub free : map (λ s. s.clause) (free_steps kept steps) ≡ map (λ s. s.clause) steps
