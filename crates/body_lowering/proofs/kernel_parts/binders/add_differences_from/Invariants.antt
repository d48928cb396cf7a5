use Rattle.std.proofs.Common.{◌≡◌, ◌++◌, ◌+◌, ◌-◌, map}
use Rattle.rel_formula.specs.View.{formula_tree}
use Rattle.lowering_rules.specs.Binders.{variables}
use Rattle.body_lowering.specs.Kernel.Binding.{unequal_to}
use Rattle.body_lowering.proofs.kernel_parts.binders.add_differences_from.Given as goal

abbrev pub invariant-loop-other : goal.invariant-loop-other
invariant-loop-other l =
    map formula_tree l.formulas.items ++ map (unequal_to l.depth l.level) (variables l.other (l.end - l.other))
    ≡ map formula_tree l.fn.formulas.items ++ map (unequal_to l.depth l.level) (variables (l.level + 1) (l.end - l.level - 1))
