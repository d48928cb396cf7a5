use Rattle.std.proofs.Common.{◌≡◌, ◌++◌, map, drop}
use Rattle.rel_formula.specs.View.{formula_tree}
use Rattle.named_model.specs.Phrase.{domains_of}
use Rattle.named_model.specs.View.{domain_view}
use Rattle.lowering_rules.specs.Binders.{differences_in}
use Rattle.body_lowering.proofs.quantifiers.differences.Given as goal

abbrev pub invariant-loop-domain : goal.invariant-loop-domain
invariant-loop-domain l =
    map formula_tree l.formulas.items ++ differences_in l.depth l.level (domains_of (map domain_view (drop l.domain-index l.domains))) ≡ differences_in l.depth l.first (domains_of (map domain_view l.domains))
