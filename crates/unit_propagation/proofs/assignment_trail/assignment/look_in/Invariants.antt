use Rattle.refutation_check.proofs.Sights.{Scanned}
use Rattle.unit_propagation.specs.Clauses.Codes.{literals_of}
use Rattle.unit_propagation.proofs.assignment_trail.assignment.look_in.Given as goal

abbrev pub invariant-loop-code : goal.invariant-loop-code
invariant-loop-code l = Scanned l.marks (literals_of l.codes) l.code-index l.open
