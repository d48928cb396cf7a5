use Rattle.std.proofs.Common.{◌≡◌, ◌+◌, drop, map, flat_map, length}
use Rattle.alloy_syntax.specs.Tree.{FieldTree}
use Rattle.alloy_syntax.specs.View.{field_view}
use Rattle.sig_resolve.proofs.parts.names_in.Given as goal

abbrev pub invariant-loop-field : goal.invariant-loop-field
invariant-loop-field l = l.total + length (flat_map (λ (f : FieldTree). f.names) (map field_view (drop l.field-index l.fields))) ≡ length (flat_map (λ (f : FieldTree). f.names) (map field_view l.fields))
