use Rattle.std.proofs.Common.{◌≡◌, ◌++◌, take}
use Rattle.std.specs.List.{flat_map}
use Rattle.refutation_check.specs.Numbering.{variables_of}
use Rattle.refutation_check.proofs.sparse.add_steps.Given as goal

abbrev pub invariant-loop-step : goal.invariant-loop-step
invariant-loop-step l = l.found.items ≡ l.fn.found.items ++ flat_map (λ s. variables_of s.clause) (take l.step-index l.steps)
