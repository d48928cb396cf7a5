use Rattle.std.proofs.Common.{◌≡◌, ◌+◌, ◌++◌, map, drop}
use Rattle.rel_formula.specs.View.{expression_tree}
use Rattle.named_model.specs.Phrase.{domains_of}
use Rattle.named_model.specs.View.{domain_view, named_view}
use Rattle.lowering_rules.specs.Binders.{behind_domains, variables_in}
use Rattle.lowering_rules.specs.Lowering.{base_within, domains_lowered}
use Rattle.body_lowering.specs.Locals.{locals_view}
use Rattle.body_lowering.proofs.rules.Rules.add_all.Given as goal

abbrev pub invariant-loop-domain : goal.invariant-loop-domain
invariant-loop-domain g l = let base = base_within l.at.calls (named_view l.model) in record {
  count : l.binders + variables_in (domains_of (map domain_view (drop l.domain-index l.domains))) ≡ l.at.binders + variables_in (domains_of (map domain_view l.domains));
  behind : behind_domains l.binders (domains_of (map domain_view (drop l.domain-index l.domains))) (locals_view l.locals.items) ≡ behind_domains l.at.binders (domains_of (map domain_view l.domains)) (locals_view l.fn.locals.items);
  left : map expression_tree l.all.items ++ domains_lowered base (locals_view l.locals.items) l.binders (domains_of (map domain_view (drop l.domain-index l.domains))) ≡ map expression_tree l.fn.all.items ++ domains_lowered base (locals_view l.fn.locals.items) l.at.binders (domains_of (map domain_view l.domains));
}
