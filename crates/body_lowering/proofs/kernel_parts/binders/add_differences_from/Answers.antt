use Rattle.std.proofs.Common.{◌++◌, ◌+◌, ◌-◌, map}
use Rattle.rel_formula.specs.View.{formula_tree}
use Rattle.lowering_rules.specs.Binders.{variables}
use Rattle.body_lowering.specs.Kernel.Binding.{unequal_to}
use Rattle.body_lowering.proofs.Kernel.Levels.{unequal_next, one_more}
use Rattle.body_lowering.proofs.kernel_parts.binders.add_differences_from.Goals as goal

pub loop-other-preserved : goal.loop-other-preserved
loop-other-preserved c =
    let old = c.loop-other.formulas.items in
    let new = c.push.new.self.items in
    let f = c.in_ok-difference.field-0 in
    unequal_next c.args.depth c.args.level c.loop-other.other c.args.end (map formula_tree old) (map formula_tree new)
    (map formula_tree c.args.formulas.now.items ++ map (unequal_to c.args.depth c.args.level) (variables (c.args.level + 1) (c.args.end - c.args.level - 1)))
    (formula_tree f) c.loop-other-test.true (one_more old new f c.in_ok-push.ensures.items) c.in_ok-difference.ensures c.loop-other.invariant
