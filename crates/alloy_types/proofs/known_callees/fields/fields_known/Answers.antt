use Rattle.std.proofs.Common.{List, map, ap, refl, subst, ◌∙◌}
use Rattle.named_model.specs.declared.named.Field.{Field}
use Rattle.named_model.specs.View.{field_view, named_view}
use Rattle.model_types.specs.Typing.{Declared}
use Rattle.overload_resolution.specs.Expressions.Types.{AreEachSame}
use Rattle.overload_resolution.specs.Scopes.Declaring.{declared_by}
use Rattle.alloy_types.specs.Calls.Fields.{field_type, field_entry}
use Rattle.alloy_types.proofs.Calls.Ready.{fields_start}
use Rattle.alloy_types.proofs.known_callees.fields.fields_known.Goals as goal

pub returns : goal.returns
returns c =
    let old = c.args.setting.now in
    let d = declared_by old in
    fields_start (named_view c.args.model.now) old _ c.requires.tables c.requires.declared (ap (λ (e : Declared). e.signatures) c.requires.declared) refl refl refl c.requires.tables.callees c.requires.kept
    (subst (λ (fs : List Field). AreEachSame c.in_ok-types.types.items (map (field_type d) (map field_view fs))) c.deref.ensures.value c.in_ok-types.ensures)
    (c.in_ok-fields.ensures ∙ ap (λ (fs : List Field). map (field_entry d) (map field_view fs)) c.deref-2.ensures.value)
