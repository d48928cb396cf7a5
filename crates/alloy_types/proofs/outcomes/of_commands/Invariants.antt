use Rattle.std.proofs.Common.{◌≡◌, map, take}
use Rattle.named_model.specs.Model.{CommandTree, NamedTree}
use Rattle.named_model.specs.View.{callee_view, target_view, command_view}
use Rattle.model_types.specs.Models.{target_settled}
use Rattle.overload_resolution.specs.Scopes.Declaring.{declared_by}
use Rattle.alloy_types.specs.Outcomes.{outcome_view}
use Rattle.alloy_types.proofs.outcomes.of_commands.Given as goal

abbrev pub invariant-loop-command : goal.invariant-loop-command
invariant-loop-command l =
    (m : NamedTree) → m.callees ≡ map callee_view l.callees
    → map (outcome_view target_view) l.found.items ≡ map (λ (c : CommandTree). target_settled m (declared_by l.setting) c.target) (map command_view (take l.command-index l.commands))
