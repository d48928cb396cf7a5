use Rattle.std.proofs.Common.{List, ◌∙◌, sym, ap, map, flat_map, refl}
use Rattle.std.proofs.lemmas.List.Concat.{flat_map-cons}
use Rattle.alloy_syntax.specs.declared.tree.Name.{Name}
use Rattle.alloy_syntax.specs.View.{field_view}
use Rattle.named_model.specs.Declarations.{texts}
use Rattle.name_tables.specs.Globals.Grown.{owned, with_fields}
use Rattle.name_tables.proofs.Globals.GrowingNames.{fields_more, fields_none}
use Rattle.name_tables.proofs.global_names.declaring.enter_fields.Goals as goal

pub loop-field-preserved : goal.loop-field-preserved
loop-field-preserved c =
    let owners = c.args.owners.now in
    fields_more (λ xs. flat_map (owned owners) (map field_view xs)) (λ x. owned owners (field_view x)) (λ x rest. flat_map-cons (owned owners) (field_view x) (map field_view rest))
    c.loop-field.names c.enter_field.new.names _ c.args.fields.now c.loop-field.field-index c.field-item.result c.loop-field-test.true c.field-item.is
    (c.in_ok-enter_field.ensures ∙ ap (λ (ns : List Name). with_fields c.loop-field.names (texts (flat_map (λ (n : Name). map (λ (owner : Name). n) owners) ns))) c.deref.ensures.value) c.loop-field.invariant

pub returns : goal.returns
returns c = sym (fields_none (λ xs. flat_map (owned c.args.owners.now) (map field_view xs)) (λ x. owned c.args.owners.now (field_view x)) refl c.loop-field.names c.args.fields.now c.loop-field.field-index c.loop-field-test.false) ∙ c.loop-field.invariant
