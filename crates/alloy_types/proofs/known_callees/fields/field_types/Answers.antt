use Rattle.std.proofs.Common.{List, ◌+◌, map, take, sym, subst}
use Rattle.named_model.specs.View.{field_view}
use Rattle.model_types.specs.Bounding.{Lists}
use Rattle.overload_resolution.specs.Expressions.Types.{AreEachSame}
use Rattle.overload_resolution.specs.Scopes.Declaring.{declared_by}
use Rattle.alloy_types.specs.Calls.Fields.{field_type}
use Rattle.alloy_types.proofs.Calls.OutcomeLemmas.{fields_more}
use Rattle.alloy_types.proofs.known_callees.fields.field_types.Goals as goal

pub loop-field-preserved : goal.loop-field-preserved
loop-field-preserved c =
    let d = declared_by c.args.setting.now in
    let fs = c.args.fields.now in
    let i = c.loop-field.field-index in
    record {
      types = subst (λ (ts : List Lists). AreEachSame ts (map (field_type d) (map field_view (take (i + 1) fs)))) (sym c.in_ok-push.ensures.items)
          (fields_more d fs i c.field-item.result c.loop-field.types.items c.in_ok-of.of c.loop-field-test.true c.field-item.is c.loop-field.invariant.types c.in_ok-of.ensures.value);
      locals = c.in_ok-of.ensures.locals;
    }
