use Rattle.std.proofs.Common.{◌<◌, arith}
use Rattle.unit_propagation.specs.Assignments.Trail.{level_of}
use Rattle.sat_trail.specs.Learnt.{IsBackLevel}
use Rattle.sat_trail.proofs.Backjumps.{second_highest, closed_back}
use Rattle.sat_trail.proofs.trail.Trail.back_level.Goals as goal

pub highest_below-top-requires : goal.highest_below-top-requires
highest_below-top-requires c = rw (← c.self.view_is) at c.requires.vars

pub highest_below-requires : goal.highest_below-requires
highest_below-requires c = rw (← c.self.view_is) at c.requires.vars

pub returns-clause-level : goal.returns-clause-level
returns-clause-level c =
    let level = c.level.ensures in
    let high : level_of c.args.self.now.assigned < 4294967295 = omega (arith, level.level, level.low, level.few, level.small) in
    let high' = rw (← c.self.view_is) at high in
    let asserting = rw (← c.self.view_is) at c.requires.asserting in
    rw (← c.self.view_is) (second_highest c.self.inside.store c.self.inside.assignment.assigned c.args.lits.now 4294967295 c.highest_below-top.result c.highest_below.result c.self.invariant.ready.trail asserting high' c.highest_below-top.ensures c.highest_below.ensures)

pub returns-clause-closed : goal.returns-clause-closed
returns-clause-closed c =
    let level = c.level.ensures in
    let high : level_of c.args.self.now.assigned < 4294967295 = omega (arith, level.level, level.low, level.few, level.small) in
    let high' = rw (← c.self.view_is) at high in
    let asserting = rw (← c.self.view_is) at c.requires.asserting in
    let xs = c.self.inside.assignment.assigned in
    let back : IsBackLevel xs c.args.lits.now c.highest_below.result = second_highest c.self.inside.store xs c.args.lits.now 4294967295 c.highest_below-top.result c.highest_below.result c.self.invariant.ready.trail asserting high' c.highest_below-top.ensures c.highest_below.ensures in
    rw (← c.self.view_is) (λ closed ys to. closed_back c.self.inside.store xs c.args.lits.now c.highest_below.result c.self.invariant.ready.trail back closed ys to)
