use Rattle.std.proofs.Common.{sym, ◌∙◌, map}
use Rattle.named_model.specs.View.{domain_view}
use Rattle.alloy_types.specs.Calls.Groups.{group_view}
use Rattle.alloy_types.specs.Meanings.{groups_unary}
use Rattle.alloy_types.proofs.Order.{groups_next, groups_past, groups_end}
use Rattle.alloy_types.proofs.commands.groups_unary.Goals.{then-number-parameters+in_ok-group_unary, else-number-parameters}
use Rattle.alloy_types.proofs.commands.groups_unary.Goals as goal

pub loop-number-preserved : goal.loop-number-preserved
loop-number-preserved c =
    let gs = c.args.groups.now in
    let xs = c.args.parameters.now in
    let i = c.loop-number.number in
    let whole = groups_unary (map group_view gs) (map domain_view xs) in
    elim c.if-number-parameters.branch [
      | then-number-parameters+in_ok-group_unary w ↦
          groups_next gs xs i whole c.loop-number.invariant c.index-groups-number.result w.index-parameters-number.result c.loop-number-test.true w.if-number-parameters.true c.index-groups-number.is w.index-parameters-number.is (sym w.group_unary.ensures ∙ w.in_ok-group_unary.was)
      | else-number-parameters w ↦ groups_past gs xs i whole c.loop-number.invariant w.if-number-parameters.false
    ]

pub returns : goal.returns
returns c = sym (groups_end c.args.groups.now c.args.parameters.now c.loop-number.number (groups_unary (map group_view c.args.groups.now) (map domain_view c.args.parameters.now)) c.loop-number.invariant c.loop-number-test.false)
