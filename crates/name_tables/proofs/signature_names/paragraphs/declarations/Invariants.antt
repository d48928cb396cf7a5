use Rattle.std.proofs.Common.{[], map, flat_map, drop}
use Rattle.alloy_syntax.specs.View.{paragraph_view}
use Rattle.named_model.specs.Declarations.{signatures_named, fields_named}
use Rattle.named_model.specs.Faults.{signature_faults}
use Rattle.named_model.specs.View.{field_view}
use Rattle.name_tables.proofs.Signatures.Gaining.{Gained}
use Rattle.name_tables.proofs.signature_names.paragraphs.declarations.Given as goal

abbrev pub invariant-loop-paragraph : goal.invariant-loop-paragraph
invariant-loop-paragraph l = record {
  signatures : Gained (λ ps. flat_map (signature_faults l.names.globals) (map paragraph_view ps)) (λ ps. flat_map (signatures_named l.names.globals) (map paragraph_view ps)) l.paragraphs (drop l.paragraph-index l.paragraphs) [] l.declared.signatures.items;
  fields : Gained (λ ps. flat_map (signature_faults l.names.globals) (map paragraph_view ps)) (λ ps. flat_map (fields_named l.names.globals) (map paragraph_view ps)) l.paragraphs (drop l.paragraph-index l.paragraphs) [] (map field_view l.declared.fields.items);
}
