-- The nodes of what is said twice.
use Rattle.std.specs.Prelude.{ℕ, ◌+◌, List}
use Rattle.alloy_syntax.specs.declared.tree.Prefix.{Prefix}
use Rattle.alloy_syntax.specs.declared.tree.Prefix.TheVariants as prefixes
use Rattle.alloy_syntax.specs.declared.tree.Operator.{Operator}
use Rattle.alloy_syntax.specs.declared.tree.Operator.TheVariants as operator
use Rattle.alloy_syntax.specs.declared.tree.Comparison.{Comparison}
use Rattle.alloy_syntax.specs.declared.tree.Comparison.TheVariants as comparison
use Rattle.alloy_syntax.specs.declared.tree.Quantifier.{Quantifier}
use Rattle.alloy_syntax.specs.declared.tree.Quantifier.TheVariants as quantifier
use Rattle.rel_formula.specs.Kernel.{ExpressionTree, FormulaTree, formulas_of}
use Rattle.lowering_rules.specs.Parts.{Lowered, relation, formula, number, size}
use Rattle.body_lowering.specs.Nodes.{nodes_of, nodes_of_each, formula_nodes, formulas_nodes}

-- the nodes of what a part became
abbrev pub part_nodes : Lowered → ℕ
part_nodes (relation e) = nodes_of e
part_nodes (formula f) = formula_nodes f
part_nodes (number n) = 0
part_nodes (size e) = nodes_of e

-- `one` says two things of its operand
abbrev pub copied_by_prefix : Prefix → Lowered → ℕ
copied_by_prefix prefixes.One x = part_nodes x
copied_by_prefix other x = 0

-- `=` says two things of the number of tuples on its left side
abbrev pub copied_by_comparison : Comparison → Lowered → ℕ
copied_by_comparison comparison.Equal x = part_nodes x
copied_by_comparison other x = 0

-- `<=>` says two things of both operands
abbrev pub copied_by_operator : Operator → Lowered → Lowered → ℕ
copied_by_operator operator.Iff x y = part_nodes x + part_nodes y
copied_by_operator other x y = 0

-- `one` says two things of its variables
abbrev pub copied_by_quantifier : Quantifier → List ExpressionTree → List FormulaTree → FormulaTree → ℕ
copied_by_quantifier quantifier.One domains apart body = nodes_of_each domains + formulas_nodes (formulas_of apart) + formula_nodes body
copied_by_quantifier other domains apart body = 0
