use Rattle.std.proofs.Common.{◌≡◌, ◌≤◌, map, filter, take, length, bytes_eq}
use Rattle.named_model.specs.Model.{FieldTree}
use Rattle.named_model.specs.View.{field_view}
use Rattle.rel_lower.proofs.relation_bounds.names.is_shared.Given as goal

abbrev pub invariant-loop-field : goal.invariant-loop-field
invariant-loop-field l = record {
  count : l.count ≡ length (filter (λ (f : FieldTree). bytes_eq f.name l.name) (map field_view (take l.field-index l.fields)));
  few : l.count ≤ l.field-index;
}
