use Rattle.std.proofs.Common.{◌<◌, None, length, arith, ap}
use Rattle.cnf_core.specs.declared.literal.Lit.{Lit}
use Rattle.unit_propagation.proofs.Assignments.TrailMarks.{marks_consistent}
use Rattle.unit_propagation.proofs.Assignments.Trails.{from_falses}
use Rattle.unit_propagation.specs.declared.assignment_trail.assigned.Assigned.{Assigned}
use Rattle.unit_propagation.proofs.assignment_trail.assignment.Assignment.len.Goals as goal

pub returns-clause-consistent : goal.returns-clause-consistent
returns-clause-consistent c = rw (← c.self.view_is) (λ l here there.
    let kept = c.self.invariant in
    let found = from_falses c.self.inside.assigned.items l here in
    let d : Assigned = record { lit = l; level = 0; reason = None } in
    let low = kept.in_range found.0 d found.1 in
    let same = ap (λ (k : Lit). k.var) (found.2 d) in
    let in' : l.var < length c.self.inside.marks.items = omega (arith, kept.long, low.1, same) in
    marks_consistent c.self.inside.marks.items _ kept.marked l in' here there)
