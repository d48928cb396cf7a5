use Rattle.std.proofs.Common.{◌≡◌, ◌-◌, length, map, take, All}
use Rattle.cnf_core.specs.Literal.{HasVarsUpTo}
use Rattle.refutation_check.specs.Renaming.{renamed_step}
use Rattle.refutation_check.specs.Numbering.{name_in}
use Rattle.refutation_check.proofs.sparse.numbered_log.Given as goal

abbrev pub invariant-loop-step : goal.invariant-loop-step
invariant-loop-step l = record {
  named : map (renamed_step (name_in l.names)) l.made ≡ take l.step-index l.steps;
  within : All (λ s. HasVarsUpTo (length l.names - 1) s.clause) l.made;
}
