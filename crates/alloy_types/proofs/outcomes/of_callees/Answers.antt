use Rattle.std.proofs.Common.{map}
use Rattle.named_model.specs.View.{callee_view}
use Rattle.model_types.specs.Models.{callee_settled}
use Rattle.overload_resolution.specs.Scopes.Declaring.{declared_by}
use Rattle.alloy_types.specs.Outcomes.{outcome_view}
use Rattle.alloy_types.proofs.ListedOutcomes.{seen_more, outcome_is, found_all}
use Rattle.alloy_types.proofs.outcomes.of_callees.Goals as goal

pub loop-callee-preserved : goal.loop-callee-preserved
loop-callee-preserved c =
    seen_more callee_view (callee_settled (declared_by c.args.setting.now)) (outcome_view callee_view) c.args.callees.now c.loop-callee.callee-index c.callee-item.result c.loop-callee.found.items c.push_outcome.new.found.items c.callee_settled-outcome.result c.loop-callee-test.true c.callee-item.is c.loop-callee.invariant c.in_ok-push_outcome.ensures.pushed
    (outcome_is callee_view c.callee_settled-outcome.result (callee_settled (declared_by c.args.setting.now) (callee_view c.callee-item.result)) c.in_ok-push_outcome.ensures.outcome c.callee_settled-outcome.ensures)

pub returns : goal.returns
returns c = found_all callee_view (callee_settled (declared_by c.args.setting.now)) c.args.callees.now c.loop-callee.callee-index (map (outcome_view callee_view) c.loop-callee.found.items) c.loop-callee-test.false c.loop-callee.invariant
