use Rattle.std.proofs.Common.{arith, sym, subst}
use Rattle.unit_propagation.specs.Assignments.Trail.{IsBackTo}
use Rattle.unit_propagation.specs.Assignments.AssignmentState.{AssignmentState}
use Rattle.unit_propagation.specs.Propagation.Walk.{IsReady}
use Rattle.unit_propagation.proofs.Propagation.Cuts.{ready_cut, back_of}
use Rattle.unit_propagation.proofs.watched_literals.back.back_to.Goals as goal

pub returns-then-propagated-count-clause-ready : goal.returns-then-propagated-count-clause-ready
returns-then-propagated-count-clause-ready c =
    let count = c.count_up_to-count.ensures in
    let made = ready_cut _ _ _ _ _ _ _ c.args.level c.count_up_to-count.result c.requires count.within count.above count.last (omega arith) (omega arith) in
    subst (λ (n : AssignmentState). IsReady c.args.store.now c.args.watches.now n c.args.pending.now.flags c.count_up_to-count.result) (sym c.cut.ensures) made

pub returns-then-propagated-count-clause-assigned : goal.returns-then-propagated-count-clause-assigned
returns-then-propagated-count-clause-assigned c =
    let count = c.count_up_to-count.ensures in
    subst (λ (n : AssignmentState). IsBackTo c.args.level c.args.now.now.assigned n.assigned) (sym c.cut.ensures) (back_of c.args.store.now _ _ c.args.level count.within count.above count.last)

pub returns-else-propagated-count-clause-ready : goal.returns-else-propagated-count-clause-ready
returns-else-propagated-count-clause-ready c =
    let count = c.count_up_to-count.ensures in
    let made = ready_cut _ _ _ _ _ _ _ c.args.level c.args.propagated.now c.requires count.within count.above count.last (omega arith) (omega arith) in
    subst (λ (n : AssignmentState). IsReady c.args.store.now c.args.watches.now n c.args.pending.now.flags c.args.propagated.now) (sym c.cut.ensures) made

pub returns-else-propagated-count-clause-assigned : goal.returns-else-propagated-count-clause-assigned
returns-else-propagated-count-clause-assigned c =
    let count = c.count_up_to-count.ensures in
    subst (λ (n : AssignmentState). IsBackTo c.args.level c.args.now.now.assigned n.assigned) (sym c.cut.ensures) (back_of c.args.store.now _ _ c.args.level count.within count.above count.last)
