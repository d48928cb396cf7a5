use Rattle.std.proofs.Common.{◌≡◌, map, vec_len}
use Rattle.rel_formula.specs.View.{expression_tree, formula_tree}
use Rattle.lowering_rules.specs.Binders.{bound_by}
use Rattle.rel_formula.specs.Kernel.{quantified}
use Rattle.body_lowering.proofs.kernel_parts.binders.bound_by.Given as goal

abbrev pub invariant-loop-domain : goal.invariant-loop-domain
invariant-loop-domain l =
    bound_by (quantified l.binder) (map expression_tree l.domains.items) (formula_tree l.formula) ≡ bound_by (quantified l.binder) (map expression_tree l.fn.domains.items) (formula_tree l.fn.body)

abbrev pub decreases-loop-domain : goal.decreases-loop-domain
decreases-loop-domain l = vec_len l.domains
