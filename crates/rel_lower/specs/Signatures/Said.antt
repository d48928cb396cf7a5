-- Formulas that are added behind others.
use Rattle.std.specs.Prelude.{◌≡◌, List, ◌++◌, map}
use Rattle.rel_formula.specs.declared.formula.Formula.{Formula}
use Rattle.rel_formula.specs.Kernel.{FormulaTree}
use Rattle.rel_formula.specs.View.{formula_tree}

-- the formulas are those before, and these behind them
abbrev pub Says : List Formula → List Formula → List FormulaTree → Type 0
Says old new fs = map formula_tree new ≡ map formula_tree old ++ fs
