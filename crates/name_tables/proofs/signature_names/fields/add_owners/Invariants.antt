use Rattle.std.proofs.Common.{[], map, drop}
use Rattle.alloy_syntax.specs.View.{field_view}
use Rattle.named_model.specs.Declarations.{field_named}
use Rattle.named_model.specs.View as seen
use Rattle.name_tables.proofs.Signatures.Gaining.{Gained}
use Rattle.name_tables.proofs.signature_names.fields.add_owners.Given as goal

abbrev pub invariant-loop-owner : goal.invariant-loop-owner
invariant-loop-owner l =
    Gained (λ _. []) (map (field_named l.names.globals (field_view l.written) l.name)) l.owners (drop l.owner-index l.owners) (map seen.field_view l.fn.fields.items) (map seen.field_view l.fields.items)
