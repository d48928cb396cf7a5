-- What contracts see of what a part becomes.
use Rattle.rel_formula.specs.View.{expression_tree, formula_tree}
use Rattle.lowering_rules.specs.Parts.{Lowered, relation, formula, number, size}
use Rattle.body_lowering.specs.declared.kernel_parts.part.Part.{Part}
use Rattle.body_lowering.specs.declared.kernel_parts.part.Part.TheVariants as part

abbrev pub part_view : Part → Lowered
part_view (part.Relation e) = relation (expression_tree e)
part_view (part.Formula f) = formula (formula_tree f)
part_view (part.Number n) = number n
part_view (part.Size e) = size (expression_tree e)
