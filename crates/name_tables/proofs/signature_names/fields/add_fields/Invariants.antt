use Rattle.std.proofs.Common.{map, flat_map, drop}
use Rattle.alloy_syntax.specs.Tree as tree
use Rattle.alloy_syntax.specs.View.{field_view}
use Rattle.named_model.specs.Faults.{bound_faults}
use Rattle.named_model.specs.View as seen
use Rattle.name_tables.specs.Signatures.Named.{fields_of}
use Rattle.name_tables.proofs.Signatures.Gaining.{Gained}
use Rattle.name_tables.proofs.signature_names.fields.add_fields.Given as goal

abbrev pub invariant-loop-each : goal.invariant-loop-each
invariant-loop-each l =
    Gained (λ xs. flat_map (λ (f : tree.FieldTree). bound_faults l.names.globals f.bound) (map field_view xs)) (λ xs. flat_map (fields_of l.names.globals l.owners) (map field_view xs)) l.written (drop l.each-index l.written) (map seen.field_view l.fn.fields.items) (map seen.field_view l.fields.items)
