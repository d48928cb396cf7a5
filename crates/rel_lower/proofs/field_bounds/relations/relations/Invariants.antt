use Rattle.std.proofs.Common.{◌≡◌, ◌≤◌, All, length}
use Rattle.std.specs.List.{AllZip}
use Rattle.rel_formula.specs.Bounds.{cells_from}
use Rattle.named_model.specs.View.{named_view}
use Rattle.lowering_rules.specs.Relations.{IsOutlined}
use Rattle.rel_lower.proofs.Bounding.Cells.{AreSets}
use Rattle.rel_lower.proofs.Bounding.Outlines.{first_outlines}
use Rattle.rel_lower.proofs.field_bounds.relations.relations.Given as goal

abbrev pub invariant-loop-field : goal.invariant-loop-field
invariant-loop-field l = record {
  outlined : AllZip (IsOutlined l.sizes) (first_outlines (named_view l.named) l.sizes l.field-index) l.relations.items;
  sets : All AreSets l.relations.items;
  count : l.cells ≡ length (cells_from 0 l.relations.items);
  few : l.cells ≤ 4096;
}
