use Rattle.std.proofs.Common.{◌≡◌, map, take}
use Rattle.model_types.specs.Parts.Tables.{entry}
use Rattle.model_types.proofs.part_sorts.tables.followed.Given as goal

abbrev pub invariant-loop-number : goal.invariant-loop-number
invariant-loop-number l = l.table.items ≡ map (entry l.second) (take l.number-index l.first)
