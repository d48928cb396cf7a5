use Rattle.std.proofs.Common.{[], map, flat_map, drop}
use Rattle.alloy_syntax.specs.declared.tree.Name.{Name}
use Rattle.alloy_syntax.specs.View.{field_view}
use Rattle.named_model.specs.Declarations.{field_named}
use Rattle.named_model.specs.View as seen
use Rattle.name_tables.proofs.Signatures.Gaining.{Gained}
use Rattle.name_tables.proofs.signature_names.fields.add_names.Given as goal

abbrev pub invariant-loop-name : goal.invariant-loop-name
invariant-loop-name l =
    Gained (λ _. []) (flat_map (λ (n : Name). map (field_named l.names.globals (field_view l.written) n) l.owners)) l.written.names.items (drop l.name-index l.written.names.items) (map seen.field_view l.fn.fields.items) (map seen.field_view l.fields.items)
