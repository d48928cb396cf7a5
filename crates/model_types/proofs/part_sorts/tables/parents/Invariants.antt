use Rattle.model_types.proofs.Parts.Climbs.{AreParentsOf}
use Rattle.model_types.proofs.part_sorts.tables.parents.Given as goal

abbrev pub invariant-loop-number : goal.invariant-loop-number
invariant-loop-number l = AreParentsOf l.signatures l.number l.table.items
