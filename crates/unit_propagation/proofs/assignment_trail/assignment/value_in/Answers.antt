use Rattle.refutation_check.proofs.Sights.{beq_differ}
use Rattle.unit_propagation.proofs.Assignments.TrailMarks.{marks_consistent}
use Rattle.unit_propagation.proofs.Assignments.Holding.{beq_same, value_true, value_false}
use Rattle.unit_propagation.specs.Clauses.Codes.{literal_of}
use Rattle.unit_propagation.proofs.assignment_trail.assignment.value_in.Goals as goal

pub returns-in-Some : goal.returns-in-Some
returns-in-Some c = λ falses marked.
    let here = value_true _ falses (literal_of c.args.code) c.in-Some.value marked c.requires c.in-Some.is (beq_same _ _ c.if-value-code.true) in
    (here, λ there. marks_consistent c.args.marks.now falses marked (literal_of c.args.code) c.requires there here)

pub returns-in-Some-2 : goal.returns-in-Some-2
returns-in-Some-2 c = λ falses marked.
    let here = value_false _ falses (literal_of c.args.code) c.in-Some.value marked c.requires c.in-Some.is (beq_differ _ _ c.if-value-code.false) in
    (here, λ there. marks_consistent c.args.marks.now falses marked (literal_of c.args.code) c.requires here there)
