use Rattle.std.proofs.Common.{[], map}
use Rattle.named_model.specs.View.{formulas_view}
use Rattle.model_types.specs.Typing.{formulas_settled}
use Rattle.overload_resolution.specs.Scopes.Declaring.{declared_by}
use Rattle.alloy_types.specs.Outcomes.{outcome_view}
use Rattle.alloy_types.proofs.ListedOutcomes.{seen_more, outcome_is, found_all}
use Rattle.alloy_types.proofs.outcomes.of_formulas.Goals as goal

pub loop-block-preserved : goal.loop-block-preserved
loop-block-preserved c =
    seen_more formulas_view (formulas_settled (declared_by c.args.setting.now) []) (outcome_view formulas_view) c.args.blocks.now c.loop-block.block-index c.block-item.result c.loop-block.found.items c.push_outcome.new.found.items c.block_settled-outcome.result c.loop-block-test.true c.block-item.is c.loop-block.invariant c.in_ok-push_outcome.ensures.pushed
    (outcome_is formulas_view c.block_settled-outcome.result (formulas_settled (declared_by c.args.setting.now) [] (formulas_view c.block-item.result)) c.in_ok-push_outcome.ensures.outcome c.block_settled-outcome.ensures)

pub returns : goal.returns
returns c = found_all formulas_view (formulas_settled (declared_by c.args.setting.now) []) c.args.blocks.now c.loop-block.block-index (map (outcome_view formulas_view) c.loop-block.found.items) c.loop-block-test.false c.loop-block.invariant
