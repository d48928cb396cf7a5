use Rattle.std.proofs.Common.{◌++◌, ◌+◌, map}
use Rattle.rel_formula.specs.View.{formula_tree}
use Rattle.body_lowering.proofs.Kernel.Levels.{said_from, said_more}
use Rattle.body_lowering.proofs.kernel_parts.binders.add_differences.Goals as goal

pub loop-level-preserved : goal.loop-level-preserved
loop-level-preserved c =
    let end = c.args.first + c.args.count in
    said_more c.args.depth c.loop-level.level end (map formula_tree c.loop-level.formulas.items) (map formula_tree c.add_differences_from.new.formulas.items)
    (map formula_tree c.args.formulas.now.items ++ said_from c.args.depth c.args.first end) c.loop-level-test.true c.in_ok-add_differences_from.ensures c.loop-level.invariant
