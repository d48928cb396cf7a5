use Rattle.std.proofs.Common.{rules, ◌≡◌, ◌++◌, ◌+◌, map, length, get_or, subst, arith}
use Rattle.named_model.specs.View.{field_view, named_view}
use Rattle.rel_formula.specs.View.{formula_tree}
use Rattle.lowering_rules.specs.Lowering.{base_of, field_number}
use Rattle.lowering_rules.specs.Formula.{field_says, fields_say}
use Rattle.rel_lower.specs.Signatures.Said.{Says}
use Rattle.rel_lower.proofs.Fields.FieldByField.{fields_more, fields_end}
use Rattle.rel_lower.proofs.field_formulas.fields.add_fields.Goals as goal

pub loop-field-preserved : goal.loop-field-preserved
loop-field-preserved c =
    let model = c.args.model.now in
    let base = base_of (named_view model) in
    let first = length model.signatures.items in
    let x = c.index.result.now in
    let old = c.loop-field.formulas.items in
    let new = c.add_field.new.formulas.items in
    let sum : c.in_ok-number.number ≡ first + c.loop-field.field = search rules in
    let at : x ≡ get_or model.fields.items c.loop-field.field x = search rules in
    fields_more base first model.fields.items c.loop-field.field x old new
    (map formula_tree c.args.formulas.now.items ++ fields_say base (field_number first 0) (map field_view model.fields.items))
    (let l = c.loop-field-test.true in omega arith) at (subst (λ k. Says old new (field_says base k (field_view x))) sum c.in_ok-add_field.ensures) c.loop-field.invariant

pub returns : goal.returns
returns c =
    let model = c.args.model.now in
    let first = length model.signatures.items in
    fields_end (base_of (named_view model)) first model.fields.items c.loop-field.field c.loop-field.formulas.items
    (map formula_tree c.args.formulas.now.items ++ fields_say (base_of (named_view model)) (field_number first 0) (map field_view model.fields.items))
    (let l = c.loop-field-test.false in omega arith) c.loop-field.invariant
