use Rattle.std.proofs.Common.{◌≡◌, ◌++◌, map, length}
use Rattle.named_model.specs.View.{field_view, named_view}
use Rattle.rel_formula.specs.View.{formula_tree}
use Rattle.lowering_rules.specs.Lowering.{base_of, field_number}
use Rattle.lowering_rules.specs.Formula.{fields_say}
use Rattle.rel_lower.proofs.Fields.FieldByField.{said_from}
use Rattle.rel_lower.proofs.field_formulas.fields.add_fields.Given as goal

abbrev pub invariant-loop-field : goal.invariant-loop-field
invariant-loop-field l =
    let base = base_of (named_view l.model) in
    let first = length l.model.signatures.items in
    map formula_tree l.formulas.items ++ said_from base first l.model.fields.items l.field
    ≡ map formula_tree l.fn.formulas.items ++ fields_say base (field_number first 0) (map field_view l.model.fields.items)
