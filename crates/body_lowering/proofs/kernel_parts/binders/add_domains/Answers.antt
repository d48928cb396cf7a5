use Rattle.std.proofs.Common.{◌++◌, map}
use Rattle.rel_formula.specs.View.{expression_tree}
use Rattle.lowering_rules.specs.Binders.{domain_of_each}
use Rattle.body_lowering.proofs.Kernel.Levels.{domains_more, one_expression_more}
use Rattle.body_lowering.proofs.kernel_parts.binders.add_domains.Goals as goal

pub loop-before-preserved : goal.loop-before-preserved
loop-before-preserved c =
    let old = c.loop-before.domains.items in
    let new = c.push.new.self.items in
    let e = c.in_ok-shifted.field-0 in
    domains_more c.loop-before.before (expression_tree c.args.domain.now) c.args.count (map expression_tree old) (map expression_tree new)
    (map expression_tree c.args.domains.now.items ++ domain_of_each 0 (expression_tree c.args.domain.now) c.args.count)
    (expression_tree e) c.loop-before-test.true (one_expression_more old new e c.in_ok-push.ensures.items) c.in_ok-shifted.ensures c.loop-before.invariant
