use Rattle.rel_formula.specs.View.{formula_tree}
use Rattle.lowering_rules.specs.Binders.{bound_by}
use Rattle.std.proofs.Common.{map}
use Rattle.rel_formula.specs.View.{expression_tree}
use Rattle.rel_formula.specs.Kernel.{quantified}
use Rattle.body_lowering.proofs.Kernel.Levels.{bound_by_next}
use Rattle.body_lowering.proofs.kernel_parts.binders.bound_by.Goals as goal

pub loop-domain-preserved : goal.loop-domain-preserved
loop-domain-preserved c =
    bound_by_next (quantified c.args.binder) c.loop-domain.domains.items c.pop.new.self.items c.in-Some.domain (formula_tree c.loop-domain.formula) (formula_tree c.in_ok-formula.formula)
    (bound_by (quantified c.args.binder) (map expression_tree c.args.domains.items) (formula_tree c.args.body)) c.in-Some.ensures.items c.in_ok-formula.ensures c.loop-domain.invariant
