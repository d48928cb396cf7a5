use Rattle.std.proofs.Common.{◌++◌, map, flat_map, take, sym, ap, ◌∙◌, subst, append-nil}
use Rattle.alloy_syntax.specs.View.{field_view}
use Rattle.named_model.specs.Faults.{fields_stated}
use Rattle.name_tables.specs.Repeats.Coded.{IsReading, AreSpaces, space_of}
use Rattle.name_tables.proofs.Repeats.ListsGoneOver.{seen_more, all_taken}
use Rattle.name_tables.proofs.Repeats.Loops.{fields_are}
use Rattle.name_tables.proofs.repeated_names.fields.add_fields.Goals as goal

pub loop-field-init : goal.loop-field-init
loop-field-init c = λ cs before is.
    let made = c.in_ok-spaces.ensures cs before is in
    (subst (λ xs. IsReading cs c.spaces.new.reading xs) (sym (append-nil before)) made.0, made.1)

pub loop-field-preserved : goal.loop-field-preserved
loop-field-preserved c = λ cs before is.
    let was = c.loop-field.invariant cs before is in
    let xs = before ++ flat_map (fields_stated cs c.args.owners.now) (map field_view (take c.loop-field.field-index c.args.fields.now)) in
    let now = c.in_ok-add_field.ensures cs xs (map (space_of cs) c.args.owners.now) was.0 (subst (λ ss. AreSpaces c.loop-field.reading.words ss (map (space_of cs) c.args.owners.now)) (sym c.deref.ensures.value) was.1) in (
      subst (λ ys. IsReading cs c.add_field.new.reading ys)
          (sym (seen_more field_view (fields_stated cs c.args.owners.now) before c.args.fields.now c.loop-field.field-index c.field-item.result c.loop-field-test.true c.field-item.is ∙ ap (λ ys. xs ++ ys) (fields_are cs c.args.owners.now (field_view c.field-item.result).names))) now.0,
      subst (λ ss. AreSpaces c.add_field.new.reading.words ss (map (space_of cs) c.args.owners.now)) c.deref.ensures.value now.1,
    )

pub returns : goal.returns
returns c = λ cs before is.
    subst (λ ys. IsReading cs c.loop-field.reading ys) (all_taken (λ fs. before ++ flat_map (fields_stated cs c.args.owners.now) (map field_view fs)) c.args.fields.now c.loop-field.field-index c.loop-field-test.false) (c.loop-field.invariant cs before is).0
