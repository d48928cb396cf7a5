use Rattle.std.proofs.Common.{◌≡◌, ◌++◌, ◌-◌, map}
use Rattle.rel_formula.specs.View.{expression_tree}
use Rattle.lowering_rules.specs.Binders.{domain_of_each}
use Rattle.body_lowering.proofs.kernel_parts.binders.add_domains.Given as goal

abbrev pub invariant-loop-before : goal.invariant-loop-before
invariant-loop-before l =
    map expression_tree l.domains.items ++ domain_of_each l.before (expression_tree l.domain) (l.count - l.before)
    ≡ map expression_tree l.fn.domains.items ++ domain_of_each 0 (expression_tree l.domain) l.count
