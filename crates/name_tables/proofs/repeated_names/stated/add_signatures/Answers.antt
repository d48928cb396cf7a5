use Rattle.std.proofs.Common.{◌++◌, map, flat_map, ap, ◌∙◌, subst, append_assoc}
use Rattle.alloy_syntax.specs.View.{field_view}
use Rattle.named_model.specs.Faults.{global, stated, fields_stated}
use Rattle.name_tables.specs.Repeats.Coded.{IsReading}
use Rattle.name_tables.proofs.repeated_names.stated.add_signatures.Goals as goal

pub returns : goal.returns
returns c = λ cs before number is.
    let first = c.in_ok-add_names.ensures global (λ ws. tt) cs before is in
    let both = c.in_ok-add_fields.ensures cs (before ++ stated global c.deref.result.now) first in
    subst (λ xs. IsReading cs c.add_fields.new.reading xs)
    (ap (λ ns. (before ++ stated global ns) ++ flat_map (fields_stated cs c.deref-2.result.now) (map field_view c.deref-3.result.now)) c.deref.ensures.value
    ∙ ap (λ ns. (before ++ stated global c.args.written.now.names.items) ++ flat_map (fields_stated cs ns) (map field_view c.deref-3.result.now)) c.deref-2.ensures.value
    ∙ ap (λ fs. (before ++ stated global c.args.written.now.names.items) ++ flat_map (fields_stated cs c.args.written.now.names.items) (map field_view fs)) c.deref-3.ensures.value
    ∙ append_assoc before (stated global c.args.written.now.names.items) (flat_map (fields_stated cs c.args.written.now.names.items) (map field_view c.args.written.now.fields.items))) both
