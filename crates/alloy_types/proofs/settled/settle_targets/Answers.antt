use Rattle.std.proofs.Common.{map, ap, sym, ◌∙◌, arith}
use Rattle.std.proofs.lemmas.List.{nil_from_length}
use Rattle.named_model.specs.View.{command_view, target_view}
use Rattle.alloy_types.specs.Outcomes.{outcome_view, with_target}
use Rattle.alloy_types.proofs.WithOutcomes.{settled_start, settled_end}
use Rattle.alloy_types.proofs.Targets.{target_inside, target_fault, target_put}
use Rattle.alloy_types.proofs.settled.settle_targets.Goals as goal

pub loop-outcome-init : goal.loop-outcome-init
loop-outcome-init c = settled_start with_target (map command_view c.args.commands.now.items) (map (outcome_view target_view) c.args.outcomes.items)

pub index_mut-requires : goal.index_mut-requires
index_mut-requires c =
    let inside = target_inside c.args.commands.now.items c.args.outcomes.items c.loop-outcome.outcomes.items c.pop.new.self.items c.in-Some.outcome c.loop-outcome.commands.items c.requires c.in-Some.ensures.items c.loop-outcome.invariant in
    omega (arith, inside, c.len.ensures, c.pop.new.self.ok.0, c.loop-outcome.commands.ok.0)

pub loop-outcome-preserved-in-Ok : goal.loop-outcome-preserved-in-Ok
loop-outcome-preserved-in-Ok c =
    target_put c.args.commands.now.items c.args.outcomes.items c.loop-outcome.outcomes.items c.pop.new.self.items c.in-Some.outcome c.loop-outcome.commands.items c.requires c.in-Some.ensures.items c.loop-outcome.invariant
    c.len.result c.in-Ok.target c.index_mut.result.now (c.len.ensures ∙ c.pop.new.self.ok.0) c.in-Ok.is c.index_mut.ensures.value

pub loop-outcome-preserved-in-Ok-2 : goal.loop-outcome-preserved-in-Ok-2
loop-outcome-preserved-in-Ok-2 c =
    target_put c.args.commands.now.items c.args.outcomes.items c.loop-outcome.outcomes.items c.pop.new.self.items c.in-Some.outcome c.loop-outcome.commands.items c.requires c.in-Some.ensures.items c.loop-outcome.invariant
    c.len.result c.in-Ok.target c.index_mut.result.now (c.len.ensures ∙ c.pop.new.self.ok.0) c.in-Ok.is c.index_mut.ensures.value

pub loop-outcome-preserved : goal.loop-outcome-preserved
loop-outcome-preserved c =
    target_fault c.args.commands.now.items c.args.outcomes.items c.loop-outcome.outcomes.items c.pop.new.self.items c.in-Some.outcome c.loop-outcome.commands.items c.requires c.in-Some.ensures.items c.loop-outcome.invariant
    c.in-Err.field-0 c.in-Err.is

pub returns : goal.returns
returns c =
    settled_end with_target (map command_view c.args.commands.now.items) (map (outcome_view target_view) c.args.outcomes.items) (map (outcome_view target_view) c.loop-outcome.outcomes.items) (map command_view c.loop-outcome.commands.items)
    (ap (map (outcome_view target_view)) (nil_from_length c.loop-outcome.outcomes.items (sym c.loop-outcome.outcomes.ok.0 ∙ c.in_default.ensures.cases.0))) c.loop-outcome.invariant
