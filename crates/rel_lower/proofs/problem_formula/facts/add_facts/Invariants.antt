use Rattle.std.proofs.Common.{◌≡◌, ◌++◌, map, drop}
use Rattle.named_model.specs.View.{named_view}
use Rattle.rel_formula.specs.View.{formula_tree}
use Rattle.lowering_rules.specs.Lowering.{base_of}
use Rattle.lowering_rules.specs.Formula.{fact_says}
use Rattle.rel_lower.proofs.problem_formula.facts.add_facts.Given as goal

abbrev pub invariant-loop-fact : goal.invariant-loop-fact
invariant-loop-fact l =
    let says = fact_says (named_view l.model) (base_of (named_view l.model)) in
    map formula_tree l.formulas.items ++ map says (drop l.fact-index l.facts) ≡ map formula_tree l.fn.formulas.items ++ map says l.facts
