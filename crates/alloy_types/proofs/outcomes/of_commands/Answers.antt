use Rattle.std.proofs.Common.{map}
use Rattle.named_model.specs.Model.{CommandTree}
use Rattle.named_model.specs.View.{target_view, command_view}
use Rattle.model_types.specs.Models.{target_settled}
use Rattle.overload_resolution.specs.Scopes.Declaring.{declared_by}
use Rattle.alloy_types.specs.Outcomes.{outcome_view}
use Rattle.alloy_types.proofs.ListedOutcomes.{seen_more, outcome_is, found_all}
use Rattle.alloy_types.proofs.outcomes.of_commands.Goals as goal

pub loop-command-preserved : goal.loop-command-preserved
loop-command-preserved c = λ m are.
    let d = declared_by c.args.setting.now in
    seen_more command_view (λ (x : CommandTree). target_settled m d x.target) (outcome_view target_view) c.args.commands.now c.loop-command.command-index c.command-item.result c.loop-command.found.items c.push_outcome.new.found.items c.target_settled-outcome.result
    c.loop-command-test.true c.command-item.is (c.loop-command.invariant m are) c.in_ok-push_outcome.ensures.pushed
    (outcome_is target_view c.target_settled-outcome.result (target_settled m d (target_view c.command-item.result.target)) c.in_ok-push_outcome.ensures.outcome (c.target_settled-outcome.ensures m are))

pub returns : goal.returns
returns c = λ m are.
    found_all command_view (λ (x : CommandTree). target_settled m (declared_by c.args.setting.now) x.target) c.args.commands.now c.loop-command.command-index (map (outcome_view target_view) c.loop-command.found.items)
    c.loop-command-test.false (c.loop-command.invariant m are)
