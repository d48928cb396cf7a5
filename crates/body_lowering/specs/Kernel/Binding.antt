-- Variables that differ.
use Rattle.std.specs.Prelude.{ℕ}
use Rattle.rel_formula.specs.Kernel.{FormulaTree, equal, negation}
use Rattle.lowering_rules.specs.Binders.{Local, under, variable}

-- under d binders, the variable of a level differs from this one
abbrev pub unequal_to : ℕ → ℕ → Local → FormulaTree
unequal_to d level other = negation (equal (under d (variable level)) (under d other))
