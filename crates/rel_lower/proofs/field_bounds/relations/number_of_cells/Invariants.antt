use Rattle.std.proofs.Common.{◌≡◌, ◌-◌, ◌^◌, All, length, min, take}
use Rattle.rel_formula.specs.Bounds.{cells_from}
use Rattle.rel_lower.proofs.Bounding.Cells.{AreSets}
use Rattle.rel_lower.proofs.field_bounds.relations.number_of_cells.Given as goal

abbrev pub invariant-loop-relation : goal.invariant-loop-relation
invariant-loop-relation l = record {
  count : l.cells ≡ min (length (cells_from 0 (take l.relation-index l.relations))) (2 ^ 64 - 1);
  sets : All AreSets (take l.relation-index l.relations);
}
