use Rattle.std.proofs.Common.{◌≡◌, map, take}
use Rattle.named_model.specs.View.{callee_view}
use Rattle.model_types.specs.Models.{callee_settled}
use Rattle.overload_resolution.specs.Scopes.Declaring.{declared_by}
use Rattle.alloy_types.specs.Outcomes.{outcome_view}
use Rattle.alloy_types.proofs.outcomes.of_callees.Given as goal

abbrev pub invariant-loop-callee : goal.invariant-loop-callee
invariant-loop-callee l = map (outcome_view callee_view) l.found.items ≡ map (callee_settled (declared_by l.setting)) (map callee_view (take l.callee-index l.callees))
