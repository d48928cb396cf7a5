use Rattle.alloy_types.proofs.Calls.OutcomeLemmas.{arities_more}
use Rattle.alloy_types.proofs.known_callees.callee.arities.Goals as goal

pub loop-group-preserved : goal.loop-group-preserved
loop-group-preserved c =
    arities_more c.args.groups.now c.loop-group.group-index c.group-item.result c.arity-arity.result c.loop-group.arities.items c.add.new.arities.items c.loop-group-test.true c.group-item.is c.loop-group.invariant
    c.arity-arity.ensures c.in_ok-add.ensures
