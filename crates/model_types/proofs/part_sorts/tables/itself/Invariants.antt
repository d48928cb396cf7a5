use Rattle.model_types.proofs.Parts.Climbs.{AreThemselves}
use Rattle.model_types.proofs.part_sorts.tables.itself.Given as goal

abbrev pub invariant-loop-number : goal.invariant-loop-number
invariant-loop-number l = AreThemselves l.number l.table.items
