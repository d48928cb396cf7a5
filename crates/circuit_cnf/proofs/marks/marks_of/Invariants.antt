-- From the last node on, the marked ones have passed their marks on.
use Rattle.circuit_cnf.proofs.OutputMarks.{HasPassed}
use Rattle.circuit_cnf.proofs.marks.marks_of.Given as goal

abbrev pub invariant-loop-i : goal.invariant-loop-i
invariant-loop-i l = HasPassed l.circuit l.fn.output l.i l.marks.items
