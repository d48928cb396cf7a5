use Rattle.std.proofs.Common.{◌≡◌, ◌++◌, map}
use Rattle.rel_formula.specs.View.{formula_tree}
use Rattle.body_lowering.proofs.Kernel.Levels.{said_from}
use Rattle.body_lowering.proofs.kernel_parts.binders.add_differences.Given as goal

abbrev pub invariant-loop-level : goal.invariant-loop-level
invariant-loop-level l =
    map formula_tree l.formulas.items ++ said_from l.depth l.level l.end ≡ map formula_tree l.fn.formulas.items ++ said_from l.depth l.fn.first l.end
