use Rattle.std.proofs.Common.{◌≡◌, ℕ, ◌+◌, ◌*◌, max, List, map, drop}
use denote.Param.Weighed.{most}
use Rattle.alloy_lex.specs.declared.token.Place.{Place}
use Rattle.named_model.specs.declared.phrase.Phrase.{size-Phrase}
use Rattle.named_model.specs.declared.phrase.Link.{size-Link}
use Rattle.named_model.specs.declared.phrase.Step.{size-Step}
use Rattle.named_model.specs.declared.phrase.Domain.{size-Domain}
use Rattle.named_model.specs.Phrase.{PhraseTree, more_phrases, links_of, steps_of, step_first, domains_of}
use Rattle.named_model.specs.View.{phrase_view, phrases_view, link_view, step_view, domain_view}
use Rattle.model_types.specs.Typing.{links_settled, steps_settled, domains_settled, values_settled}
use Rattle.model_types.specs.Parts.Kinds.{kind_view}
use Rattle.overload_resolution.specs.Names.Asking.{asks_in_links, asks_in_steps}
use Rattle.overload_resolution.specs.Names.Shared.{shared_among, shared_in_domains}
use Rattle.overload_resolution.specs.Settling.Same.{Asks}
use Rattle.overload_resolution.proofs.Settling.Loops.{FormulasLeft, ArgumentsLeft, OperandsLeft, StepsLeft, ReachedBehind}
use Rattle.overload_resolution.proofs.Settling.Reaching.{domain_first}
use Rattle.overload_resolution.specs.Scopes.Declaring.{declared_by}
use Rattle.overload_resolution.specs.Scopes.Zipped.{IsInside}
use Rattle.overload_resolution.specs.Parts.Given.{IsGivenFirst, IsGivenBefore}
use Rattle.overload_resolution.proofs.settled_parts.settling.+parts.Given as goal

abbrev pub decreases-part : goal.decreases-part
decreases-part l = 8 * goal.size-part l

abbrev pub decreases-call : goal.decreases-call
decreases-call l = 8 * goal.size-call l + 4

abbrev pub decreases-prefixed : goal.decreases-prefixed
decreases-prefixed l = 8 * goal.size-prefixed l + 2

abbrev pub decreases-chain : goal.decreases-chain
decreases-chain l = 8 * max (size-Phrase l.first.now) (most size-Link l.links.now) + 6

abbrev pub decreases-path : goal.decreases-path
decreases-path l = 8 * max (size-Phrase l.head.now) (most size-Step l.steps.now) + 7

abbrev pub decreases-compared : goal.decreases-compared
decreases-compared l = 8 * max (size-Phrase l.left.now) (size-Phrase l.right.now) + 2

abbrev pub decreases-implied : goal.decreases-implied
decreases-implied l = 8 * max (size-Phrase l.left.now) (size-Phrase l.right.now) + 3

abbrev pub decreases-or_else : goal.decreases-or_else
decreases-or_else l = 8 * max (size-Phrase l.left.now) (max (size-Phrase l.right.now) (size-Phrase l.other.now)) + 3

abbrev pub decreases-quantified : goal.decreases-quantified
decreases-quantified l = 8 * max (most size-Domain l.variables.now) (size-Phrase l.inner.now) + 5

abbrev pub decreases-in_let : goal.decreases-in_let
decreases-in_let l = 8 * max (most size-Phrase l.phrases.now) (size-Phrase l.inner.now) + 5

abbrev pub decreases-variables_entered : goal.decreases-variables_entered
decreases-variables_entered l = 8 * goal.size-variables_entered l + 4

abbrev pub decreases-formula_inside : goal.decreases-formula_inside
decreases-formula_inside l = 8 * goal.size-formula_inside l + 3

abbrev pub decreases-values_entered : goal.decreases-values_entered
decreases-values_entered l = 8 * goal.size-values_entered l + 4

abbrev pub decreases-plain : goal.decreases-plain
decreases-plain l = 8 * goal.size-plain l + 1

abbrev pub decreases-formula : goal.decreases-formula
decreases-formula l = 8 * goal.size-formula l + 2

abbrev pub decreases-formulas : goal.decreases-formulas
decreases-formulas l = 8 * goal.size-formulas l + 3

abbrev pub decreases-relation : goal.decreases-relation
decreases-relation l = 8 * goal.size-relation l + 2

abbrev pub decreases-all_arguments : goal.decreases-all_arguments
decreases-all_arguments l = 8 * goal.size-all_arguments l + 3

abbrev pub decreases-behind : goal.decreases-behind
decreases-behind l = 8 * goal.size-behind l + 5

abbrev pub decreases-operands : goal.decreases-operands
decreases-operands l = 8 * goal.size-operands l + 4

abbrev pub decreases-link_settled : goal.decreases-link_settled
decreases-link_settled l = 8 * goal.size-link_settled l + 3

abbrev pub decreases-operand : goal.decreases-operand
decreases-operand l = 8 * goal.size-operand l + 1

abbrev pub decreases-argument_asked : goal.decreases-argument_asked
decreases-argument_asked l = 8 * goal.size-argument_asked l + 3

abbrev pub decreases-argument_first : goal.decreases-argument_first
decreases-argument_first l = 8 * goal.size-argument_first l + 2

abbrev pub decreases-head_settled : goal.decreases-head_settled
decreases-head_settled l = 8 * goal.size-head_settled l + 2

abbrev pub decreases-after : goal.decreases-after
decreases-after l = 8 * goal.size-after l + 6

abbrev pub decreases-all_steps : goal.decreases-all_steps
decreases-all_steps l = 8 * goal.size-all_steps l + 5

abbrev pub decreases-step_settled : goal.decreases-step_settled
decreases-step_settled l = 8 * goal.size-step_settled l + 4

abbrev pub decreases-member : goal.decreases-member
decreases-member l = 8 * goal.size-member l + 1

abbrev pub decreases-domains : goal.decreases-domains
decreases-domains l = 8 * goal.size-domains l + 3

abbrev pub decreases-values : goal.decreases-values
decreases-values l = 8 * goal.size-values l + 3

abbrev pub invariant-formulas-loop-phrase : goal.invariant-formulas-loop-phrase
invariant-formulas-loop-phrase l = record {
  same : l.scope.locals ≡ l.fn.scope.locals;
  left : FormulasLeft (declared_by l.setting) l.fn.scope.locals (phrases_view l.phrases) (phrases_view (drop l.phrase-index l.phrases)) (map phrase_view l.all.items);
}

abbrev pub invariant-all_arguments-loop-phrase : goal.invariant-all_arguments-loop-phrase
invariant-all_arguments-loop-phrase l = record {
  same : l.scope.locals ≡ l.fn.scope.locals;
  given : IsGivenFirst (declared_by l.setting) l.fn.scope.locals l.given (phrases_view (drop l.phrase-index l.phrases));
  left : (found : List ((PhraseTree × ℕ) × Place)) × (map (λ q. q.0.0) found ≡ map phrase_view l.all.phrases.items) × (map (λ q. (q.0.1, q.1)) found ≡ l.all.arities.items)
      × ArgumentsLeft (declared_by l.setting) l.fn.scope.locals (phrases_view l.phrases) (phrases_view (drop l.phrase-index l.phrases)) found;
}

abbrev pub invariant-operands-loop-link : goal.invariant-operands-loop-link
invariant-operands-loop-link l = record {
  same : l.scope.locals ≡ l.fn.scope.locals;
  asks : Asks (asks_in_links (links_of (map link_view (drop l.link-index l.links)))) l.asked;
  left : OperandsLeft (declared_by l.setting) l.fn.scope.locals l.left (links_settled (declared_by l.setting) l.fn.scope.locals l.left (kind_view l.fn.kind) l.fn.of (links_of (map link_view l.links))) (kind_view l.kind) l.of (links_of (map link_view (drop l.link-index l.links))) (map link_view l.all.items);
}

abbrev pub invariant-all_steps-loop-step : goal.invariant-all_steps-loop-step
invariant-all_steps-loop-step l = record {
  same : l.scope.locals ≡ l.fn.scope.locals;
  asks : Asks (asks_in_steps (steps_of (map step_view (drop l.step-index l.steps)))) l.asked;
  given : IsGivenBefore (declared_by l.setting) l.fn.scope.locals l.given (steps_of (map step_view (drop l.step-index l.steps)));
  left : StepsLeft (declared_by l.setting) l.fn.scope.locals l.left (steps_settled (declared_by l.setting) l.fn.scope.locals l.left (kind_view l.fn.kind) l.fn.of (steps_of (map step_view l.steps))) (kind_view l.kind) l.of (steps_of (map step_view (drop l.step-index l.steps))) (map step_first (map step_view l.all.items));
}

abbrev pub invariant-domains-loop-variable : goal.invariant-domains-loop-variable
invariant-domains-loop-variable l = record {
  inside : IsInside l.scope.locals l.fn.scope.locals;
  asks : Asks (shared_in_domains (domains_of (map domain_view (drop l.variable-index l.variables)))) l.asked;
  left : ReachedBehind l.asked domain_first (map domain_view l.all.items) (domains_settled l.single (declared_by l.setting) l.scope.locals (domains_of (map domain_view (drop l.variable-index l.variables)))) (domains_settled l.single (declared_by l.setting) l.fn.scope.locals (domains_of (map domain_view l.variables)));
}

abbrev pub invariant-values-loop-phrase : goal.invariant-values-loop-phrase
invariant-values-loop-phrase l = record {
  inside : IsInside l.scope.locals l.fn.scope.locals;
  asks : Asks (shared_among (phrases_view (drop l.phrase-index l.phrases))) l.asked;
  left : ReachedBehind l.asked more_phrases (map phrase_view l.all.items) (values_settled (declared_by l.setting) l.scope.locals (phrases_view (drop l.phrase-index l.phrases))) (values_settled (declared_by l.setting) l.fn.scope.locals (phrases_view l.phrases));
}
