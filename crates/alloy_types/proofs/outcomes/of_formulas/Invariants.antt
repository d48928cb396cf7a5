use Rattle.std.proofs.Common.{◌≡◌, [], map, take}
use Rattle.named_model.specs.View.{formulas_view}
use Rattle.model_types.specs.Typing.{formulas_settled}
use Rattle.overload_resolution.specs.Scopes.Declaring.{declared_by}
use Rattle.alloy_types.specs.Outcomes.{outcome_view}
use Rattle.alloy_types.proofs.outcomes.of_formulas.Given as goal

abbrev pub invariant-loop-block : goal.invariant-loop-block
invariant-loop-block l = map (outcome_view formulas_view) l.found.items ≡ map (formulas_settled (declared_by l.setting) []) (map formulas_view (take l.block-index l.blocks))
