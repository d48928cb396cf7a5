use Rattle.name_tables.proofs.Repeats.DeclaredMarks.{AreFirst}
use Rattle.name_tables.proofs.repeated_names.marks.first_of.Given as goal

abbrev pub invariant-loop-each : goal.invariant-loop-each
invariant-loop-each l = AreFirst l.coded l.each-index l.marks.keys
