use Rattle.std.proofs.Common.{◌<◌, ◌≤◌, get_or, arith}
use Rattle.refutation_check.proofs.Sights.{seen_to}
use Rattle.refutation_check.specs.Marks.{IsWithin}
use Rattle.unit_propagation.specs.Clauses.Codes.{literals_of}
use Rattle.unit_propagation.proofs.Assignments.Holding.{within_marks}
use Rattle.unit_propagation.proofs.assignment_trail.assignment.Assignment.look.Goals as goal

pub look_in-requires-clause-in_range : goal.look_in-requires-clause-in_range
look_in-requires-clause-in_range c =
    let low = rw (← c.self.view_is) at c.requires.in_range in
    rw c.as_slice.ensures.value (within_marks _ _ _ c.self.invariant.long low)

pub returns : goal.returns
returns c =
    let low = rw (← c.self.view_is) at c.requires.in_range in
    let seen = rw c.as_slice.ensures.value at c.look_in.ensures in
    rw (← c.self.view_is) (seen_to _ _ c.self.invariant.marked (literals_of c.args.codes.now) (within_marks _ _ _ c.self.invariant.long low) _ seen)
