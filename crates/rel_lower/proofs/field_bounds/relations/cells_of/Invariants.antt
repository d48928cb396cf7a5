use Rattle.std.proofs.Common.{◌≡◌, ◌≤◌, filter, length, take}
use Rattle.rel_lower.proofs.Bounding.Cells.{is_open}
use Rattle.rel_lower.proofs.field_bounds.relations.cells_of.Given as goal

abbrev pub invariant-loop-tuple : goal.invariant-loop-tuple
invariant-loop-tuple l = record {
  count : l.cells ≡ length (filter (is_open l.relation.lower.rows) (take l.tuple-index l.tuple-items));
  few : l.cells ≤ l.tuple-index;
}
