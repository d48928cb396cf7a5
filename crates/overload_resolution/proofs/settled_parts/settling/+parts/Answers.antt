use Rattle.std.proofs.Common.{true, rules, arith, ◌+◌, List, [], map, drop, ap, ◌∙◌, sym, subst, refl, Option, Result, Ok, Err, inr, Bor, Vec, Global}
use denote.Param.Weighed.{at_most}
use Rattle.std.specs.Option.{option_copied, option_map}
use Rattle.std.proofs.lemmas.Result.{err_from_is_err_and}
use Rattle.named_model.specs.declared.phrase.Phrase.{Phrase}
use Rattle.named_model.specs.declared.phrase.Phrase.TheViews.{the_lemmas}
use Rattle.named_model.specs.Answers.{◌>>=◌}
use Rattle.named_model.specs.Phrase as tree
use Rattle.named_model.specs.Phrase.{links_of, steps_of, domains_of, no_steps}
use Rattle.named_model.specs.View.{phrase_view, phrases_view, link_view, step_view, domain_view}
use Rattle.model_types.specs.Typing.{Local, Settled, type_in, formula_from, settled, formulas_settled, links_settled, steps_settled, domains_settled, values_settled, tops_behind, ends_of}
use Rattle.model_types.specs.declared.fault.TypeFault.{TypeFault}
use Rattle.model_types.specs.Sorts.{formula, first_place}
use Rattle.model_types.specs.declared.part_sorts.kinds.Kind.{Kind}
use Rattle.model_types.specs.Parts.Kinds.{kind_view}
use Rattle.overload_resolution.specs.Settling.Told.{IsTold, Gives}
use Rattle.overload_resolution.specs.Settling.Single.{argument_first, relation_settled, tops_of}
use Rattle.overload_resolution.specs.declared.shared_names.headers.Header.{Header}
use Rattle.overload_resolution.specs.Names.Shared.{shared_in, shared_among, shared_in_domains}
use Rattle.overload_resolution.proofs.Settling.Asking.{operands_alike, members_alike}
use Rattle.overload_resolution.proofs.Settling.Reaching.{told_then, domain_first}
use Rattle.overload_resolution.proofs.Settling.Loops.{FormulasLeft, OperandsLeft, StepsLeft, ReachedBehind}
use Rattle.overload_resolution.specs.Scopes.Declaring.{declared_by}
use Rattle.overload_resolution.specs.Scopes.Given.{settled_view}
use Rattle.overload_resolution.proofs.Scopes.Standing.{same_types}
use Rattle.overload_resolution.specs.Scopes.Zipped.{IsInside}
use Rattle.overload_resolution.specs.Settling.Built.{relation_built, domain_built, bracketed_built, block_built, prefixed_built, chain_built, compared_built, implies_built, else_built}
use Rattle.overload_resolution.specs.Parts.Given.{relation_view, IsGiven, IsGivenFirst, IsGivenBefore}
use Rattle.overload_resolution.specs.Parts.Views.{phrases_seen, domains_seen, links_seen, steps_seen}
use Rattle.overload_resolution.proofs.Parts.Lists.{ArgumentsFound, formula_start, formula_more, formula_fault, formula_all, given_here, argument_start, argument_more, argument_fault, argument_all}
use Rattle.overload_resolution.proofs.Parts.Operands.{links_ask, operand_start, operand_more, operand_fault, operand_all, steps_ask, given_step, none_given, step_start, step_more, step_fault, step_all}
use Rattle.overload_resolution.proofs.Parts.Entered.{behind_start, domains_ask, values_ask, domain_more, domain_fault, domain_all, value_more, value_fault, value_all, inside_then}
use Rattle.overload_resolution.proofs.Parts.PathHeads.{settled_by, asked_before, path_asked_told, path_head_told, brackets_come, join_comes, given_brackets}
use Rattle.overload_resolution.proofs.Parts.Arms.{head_by, asked_brackets, asked_join}
use Rattle.overload_resolution.proofs.Parts.Answered.{gives_by_answer, chain_whole, path_whole, compared_whole, implied_whole, else_whole, quantified_whole, let_whole, connected_whole, combined_whole, join_whole, brackets_whole}
use Rattle.overload_resolution.proofs.Parts.WalkedParts.{asks_either, asks_first, entry_read, call_fault, call_is, entered_unless, left_unless, inside_unless, refers_given, call_given, constant_given, brackets_given, block_given, prefixed_given, chain_given, path_given, compared_given, implied_given, else_given, quantified_given, let_given}
use Rattle.overload_resolution.proofs.settled_parts.settling.+parts.Goals as goal

pub formulas-loop-phrase-init : goal.formulas-loop-phrase-init
formulas-loop-phrase-init t c = record {
  same = refl;
  left = subst (λ xs. FormulasLeft (declared_by c.args.setting.now) c.args.scope.now.locals (phrases_view c.args.phrases.now) (phrases_view c.args.phrases.now) (map phrase_view xs)) (sym c.new-all.ensures.items)
      (formula_start (declared_by c.args.setting.now) c.args.scope.now.locals c.args.phrases.now);
}

pub formulas-loop-phrase-preserved : goal.formulas-loop-phrase-preserved
formulas-loop-phrase-preserved t c =
    let l = c.loop-phrase in
    record {
      same = c.in_ok-another.ensures.locals ∙ l.invariant.same;
      left = formula_more (declared_by c.args.setting.now) c.args.scope.now.locals c.args.phrases.now l.scope.locals l.invariant.same l.phrase-index c.phrase-item.result c.loop-phrase-test.true c.phrase-item.is l.all.items l.invariant.left c.in_ok-another.another c.push.new.self.items c.in_ok-push.ensures.items c.in_ok-another.ensures.value;
    }

pub formulas-returns-in_err-another-clause-value : goal.formulas-returns-in_err-another-clause-value
formulas-returns-in_err-another-clause-value t c =
    let l = c.loop-phrase in
    let p = err_from_is_err_and c.from_residual.result c.from_residual.ensures.1 in
    rw (p.1, p.2) (formula_fault (declared_by c.args.setting.now) c.args.scope.now.locals c.args.phrases.now l.scope.locals l.invariant.same l.phrase-index c.phrase-item.result c.loop-phrase-test.true c.phrase-item.is l.all.items l.invariant.left c.in_err-another.field-0.0 c.in_err-another.ensures.value)

pub formulas-returns-clause-value : goal.formulas-returns-clause-value
formulas-returns-clause-value t c =
    let l = c.loop-phrase in
    formula_all (declared_by c.args.setting.now) c.args.scope.now.locals c.args.phrases.now l.phrase-index l.all.items c.loop-phrase-test.false l.invariant.left

pub behind-returns-clause-value : goal.behind-returns-clause-value
behind-returns-clause-value t c =
    let d = declared_by c.args.setting.now in
    let ls = c.args.scope.now.locals in
    let links = links_of (map link_view c.args.links.now) in
    let k = kind_view c.args.kind in
    subst (λ r. Gives links_seen c.operands.result r)
    (ap (λ (m : List Local). links_settled d m c.args.left k c.in_ok-of.of links) c.type_where.ensures.locals
    ∙ operands_alike c.asks_in_links-asked.result d ls c.args.left k c.in_ok-of.of (type_in d ls (phrase_view c.args.head.now)) links (λ e. c.asks_in_links-asked.ensures ∙ e) c.in_ok-of.ensures.value)
    c.operands.ensures.value

pub operands-loop-link-init : goal.operands-loop-link-init
operands-loop-link-init t c = record {
  same = refl;
  asks = λ e. sym c.requires.asked ∙ e;
  left =
      let d = declared_by c.args.setting.now in
      let ls = c.args.scope.now.locals in
      let whole = links_settled d ls c.args.left (kind_view c.args.kind) c.args.of (links_of (map link_view c.args.links.now)) in
      subst (λ xs. OperandsLeft d ls c.args.left whole (kind_view c.args.kind) c.args.of (links_of (map link_view c.args.links.now)) (map link_view xs)) (sym c.new-all.ensures.items)
      (operand_start d ls c.args.left whole c.args.links.now (kind_view c.args.kind) c.args.of refl);
}

pub operands-loop-link-preserved : goal.operands-loop-link-preserved
operands-loop-link-preserved t c =
    let d = declared_by c.args.setting.now in
    let ls = c.args.scope.now.locals in
    let l = c.loop-link in
    let whole = links_settled d ls c.args.left (kind_view c.args.kind) c.args.of (links_of (map link_view c.args.links.now)) in
    record {
      same = c.in_ok-of.ensures.locals ∙ c.in_ok-another.ensures.locals ∙ l.invariant.same;
      asks = links_ask c.args.asked c.args.links.now l.link-index c.link-item.result c.loop-link-test.true c.link-item.is l.invariant.asks;
      left = operand_more d ls c.args.left whole c.args.links.now l.scope.locals l.invariant.same l.link-index c.link-item.result c.loop-link-test.true c.link-item.is l.kind l.of l.all.items l.invariant.left
          c.args.asked c.link_settled.new.scope.locals c.in_ok-another.another c.in_ok-another.next c.in_ok-of.of c.put_link.new.all.items c.in_ok-another.ensures.locals c.in_ok-of.ensures.items c.in_ok-another.ensures.value c.in_ok-of.ensures.typed l.invariant.asks;
    }

pub operands-returns-in_err-another-clause-value : goal.operands-returns-in_err-another-clause-value
operands-returns-in_err-another-clause-value t c =
    let d = declared_by c.args.setting.now in
    let ls = c.args.scope.now.locals in
    let l = c.loop-link in
    let whole = links_settled d ls c.args.left (kind_view c.args.kind) c.args.of (links_of (map link_view c.args.links.now)) in
    let p = err_from_is_err_and c.from_residual.result c.from_residual.ensures.1 in
    rw (p.1, p.2) (operand_fault d ls c.args.left whole c.args.links.now l.scope.locals l.invariant.same l.link-index c.link-item.result c.loop-link-test.true c.link-item.is l.kind l.of l.all.items l.invariant.left c.in_err-another.field-0.0 c.in_err-another.ensures.value)

pub operands-returns-clause-value : goal.operands-returns-clause-value
operands-returns-clause-value t c =
    let d = declared_by c.args.setting.now in
    let ls = c.args.scope.now.locals in
    let l = c.loop-link in
    let whole = links_settled d ls c.args.left (kind_view c.args.kind) c.args.of (links_of (map link_view c.args.links.now)) in
    operand_all d ls c.args.left whole c.args.links.now l.link-index (kind_view l.kind) l.of l.all.items c.loop-link-test.false l.invariant.left

pub operand-returns-clause-value : goal.operand-returns-clause-value
operand-returns-clause-value t c =
    let d = declared_by c.args.setting.now in
    let ls = c.args.scope.now.locals in
    subst (λ r. Gives settled_view c.part.result r)
    (settled_by d ls ls c.in_ok-tops.tops (tops_behind c.args.operator c.args.of.now) (phrase_view c.args.phrase.now) refl (c.in_ok-tops.ensures c.args.of.now (λ t. refl)))
    c.part.ensures.value

pub member-returns-clause-value : goal.member-returns-clause-value
member-returns-clause-value t c =
    let d = declared_by c.args.setting.now in
    let ls = c.args.scope.now.locals in
    subst (λ r. Gives settled_view c.part.result r)
    (settled_by d ls ls c.in_ok-tops.tops (ends_of c.args.of.now) (phrase_view c.args.phrase.now) refl (c.in_ok-tops.ensures c.args.of.now (λ t. refl)))
    c.part.ensures.value

pub after-returns-clause-value : goal.after-returns-clause-value
after-returns-clause-value t c =
    let d = declared_by c.args.setting.now in
    let ls = c.args.scope.now.locals in
    let steps = steps_of (map step_view c.args.steps.now) in
    let k = kind_view c.args.kind in
    subst (λ r. Gives steps_seen c.all_steps.result r)
    (ap (λ (m : List Local). steps_settled d m c.args.left k c.in_ok-of.of steps) c.type_where.ensures.locals
    ∙ members_alike c.asks_in_steps-asked.result d ls c.args.left k c.in_ok-of.of (type_in d ls (phrase_view c.args.head.now)) steps (λ e. c.asks_in_steps-asked.ensures ∙ e) c.in_ok-of.ensures.value)
    c.all_steps.ensures.value

pub all_steps-loop-step-init : goal.all_steps-loop-step-init
all_steps-loop-step-init t c = record {
  same = refl;
  asks = λ e. sym c.requires.asked ∙ e;
  given = c.requires.given;
  left =
      let d = declared_by c.args.setting.now in
      let ls = c.args.scope.now.locals in
      let whole = steps_settled d ls c.args.left (kind_view c.args.kind) c.args.of (steps_of (map step_view c.args.steps.now)) in
      subst (λ xs. StepsLeft d ls c.args.left whole (kind_view c.args.kind) c.args.of (steps_of (map step_view c.args.steps.now)) (map tree.step_first (map step_view xs))) (sym c.new-all.ensures.items)
      (step_start d ls c.args.left whole c.args.steps.now (kind_view c.args.kind) c.args.of refl);
}

pub all_steps-loop-step-preserved : goal.all_steps-loop-step-preserved
all_steps-loop-step-preserved t c =
    let d = declared_by c.args.setting.now in
    let ls = c.args.scope.now.locals in
    let l = c.loop-step in
    let whole = steps_settled d ls c.args.left (kind_view c.args.kind) c.args.of (steps_of (map step_view c.args.steps.now)) in
    record {
      same = c.in_ok-of.ensures.locals ∙ c.in_ok-another.ensures.locals ∙ l.invariant.same;
      asks = steps_ask c.args.asked c.args.steps.now l.step-index c.step-item.result c.loop-step-test.true c.step-item.is l.invariant.asks;
      given = subst (λ g. IsGivenBefore d ls g (steps_of (map step_view (drop (l.step-index + 1) c.args.steps.now)))) (sym c.take.ensures.after) (none_given d ls (steps_of (map step_view (drop (l.step-index + 1) c.args.steps.now))));
      left = step_more d ls c.args.left whole c.args.steps.now l.scope.locals l.invariant.same l.step-index c.step-item.result c.loop-step-test.true c.step-item.is l.kind l.of l.all.items l.invariant.left
          c.args.asked c.step_settled.new.scope.locals c.in_ok-another.another c.in_ok-another.next c.in_ok-of.of c.put_step.new.all.items c.in_ok-another.ensures.locals c.in_ok-of.ensures.items c.in_ok-another.ensures.value c.in_ok-of.ensures.typed l.invariant.asks;
    }

pub all_steps-returns-in_err-another-clause-value : goal.all_steps-returns-in_err-another-clause-value
all_steps-returns-in_err-another-clause-value t c =
    let d = declared_by c.args.setting.now in
    let ls = c.args.scope.now.locals in
    let l = c.loop-step in
    let whole = steps_settled d ls c.args.left (kind_view c.args.kind) c.args.of (steps_of (map step_view c.args.steps.now)) in
    let p = err_from_is_err_and c.from_residual.result c.from_residual.ensures.1 in
    rw (p.1, p.2) (step_fault d ls c.args.left whole c.args.steps.now l.scope.locals l.invariant.same l.step-index c.step-item.result c.loop-step-test.true c.step-item.is l.kind l.of l.all.items l.invariant.left c.in_err-another.field-0.0 c.in_err-another.ensures.value)

pub all_steps-returns-clause-value : goal.all_steps-returns-clause-value
all_steps-returns-clause-value t c =
    let d = declared_by c.args.setting.now in
    let ls = c.args.scope.now.locals in
    let l = c.loop-step in
    let whole = steps_settled d ls c.args.left (kind_view c.args.kind) c.args.of (steps_of (map step_view c.args.steps.now)) in
    step_all d ls c.args.left whole c.args.steps.now l.step-index (kind_view l.kind) l.of l.all.items c.loop-step-test.false l.invariant.left

pub domains-loop-variable-init : goal.domains-loop-variable-init
domains-loop-variable-init t c = record {
  inside = ([], refl);
  asks = c.requires.asked;
  left =
      let whole = domains_settled c.args.single (declared_by c.args.setting.now) c.args.scope.now.locals (domains_of (map domain_view c.args.variables.now)) in
      subst (λ xs. ReachedBehind c.args.asked domain_first (map domain_view xs) whole whole) (sym c.new-all.ensures.items) (behind_start c.args.asked domain_first whole);
}

pub domains-loop-variable-preserved : goal.domains-loop-variable-preserved
domains-loop-variable-preserved t c =
    let s = c.args.setting.now in
    let d = declared_by s in
    let l = c.loop-variable in
    let whole = domains_settled c.args.single d c.args.scope.now.locals (domains_of (map domain_view c.args.variables.now)) in
    let more = c.in_ok-enter_all.ensures.inside in
    record {
      inside = inside_then c.enter_all.new.scope.locals c.relation-settled.new.scope.locals l.scope.locals c.args.scope.now.locals more c.relation-settled.ensures.locals l.invariant.inside;
      asks = domains_ask c.args.asked c.args.variables.now l.variable-index c.variable-item.result c.loop-variable-test.true c.variable-item.is l.invariant.asks;
      left = domain_more c.args.asked d (same_types s c.requires.tables) c.args.single whole c.args.variables.now l.scope.locals l.variable-index l.all.items l.invariant.left
          c.variable-item.result c.loop-variable-test.true c.variable-item.is c.in_ok-domain.domain c.in_ok-domain.arity c.relation-settled.new.scope.locals c.enter_all.new.scope.locals c.push.new.self.items c.in_ok-push.ensures.items c.relation-settled.ensures.locals
          (gives_by_answer relation_view relation_view (domain_built c.args.single (phrase_view c.variable-item.result.domain)) refl c.relation-settled.result (relation_settled d l.scope.locals (phrase_view c.variable-item.result.domain)) (Ok (c.in_ok-domain.domain, c.in_ok-domain.arity)) c.relation-settled.ensures.value c.in_ok-domain.ensures)
          c.in_ok-enter_all.ensures.alike l.invariant.asks;
    }

pub domains-returns-in_err-domain-clause-value : goal.domains-returns-in_err-domain-clause-value
domains-returns-in_err-domain-clause-value t c =
    let s = c.args.setting.now in
    let d = declared_by s in
    let l = c.loop-variable in
    let whole = domains_settled c.args.single d c.args.scope.now.locals (domains_of (map domain_view c.args.variables.now)) in
    let p = err_from_is_err_and c.from_residual.result c.from_residual.ensures.1 in
    rw (p.1, p.2) (domain_fault c.args.asked d (same_types s c.requires.tables) c.args.single whole c.args.variables.now l.scope.locals l.variable-index l.all.items l.invariant.left c.variable-item.result c.loop-variable-test.true c.variable-item.is c.in_err-domain.field-0.0
    (gives_by_answer relation_view relation_view (domain_built c.args.single (phrase_view c.variable-item.result.domain)) refl c.relation-settled.result (relation_settled d l.scope.locals (phrase_view c.variable-item.result.domain)) (Err c.in_err-domain.field-0.0) c.relation-settled.ensures.value c.in_err-domain.ensures))

pub domains-returns-in_err-domain-clause-inside : goal.domains-returns-in_err-domain-clause-inside
domains-returns-in_err-domain-clause-inside t c = subst (λ (ls : List Local). IsInside ls c.args.scope.now.locals) (sym c.relation-settled.ensures.locals) c.loop-variable.invariant.inside

pub domains-returns-in_err-enter_all-clause-inside : goal.domains-returns-in_err-enter_all-clause-inside
domains-returns-in_err-enter_all-clause-inside t c =
    inside_then c.enter_all.new.scope.locals c.relation-settled.new.scope.locals c.loop-variable.scope.locals c.args.scope.now.locals c.in_err-enter_all.ensures.inside c.relation-settled.ensures.locals c.loop-variable.invariant.inside

pub domains-returns-in_err-push-clause-inside : goal.domains-returns-in_err-push-clause-inside
domains-returns-in_err-push-clause-inside t c =
    inside_then c.enter_all.new.scope.locals c.relation-settled.new.scope.locals c.loop-variable.scope.locals c.args.scope.now.locals c.in_ok-enter_all.ensures.inside c.relation-settled.ensures.locals c.loop-variable.invariant.inside

pub domains-returns-clause-value : goal.domains-returns-clause-value
domains-returns-clause-value t c =
    let s = c.args.setting.now in
    let d = declared_by s in
    let l = c.loop-variable in
    let whole = domains_settled c.args.single d c.args.scope.now.locals (domains_of (map domain_view c.args.variables.now)) in
    domain_all c.args.asked d (same_types s c.requires.tables) c.args.single whole c.args.variables.now l.scope.locals l.variable-index l.all.items l.invariant.left c.loop-variable-test.false

pub values-loop-phrase-init : goal.values-loop-phrase-init
values-loop-phrase-init t c = record {
  inside = ([], refl);
  asks = c.requires.asked;
  left =
      let whole = values_settled (declared_by c.args.setting.now) c.args.scope.now.locals (phrases_view c.args.phrases.now) in
      subst (λ xs. ReachedBehind c.args.asked tree.more_phrases (map phrase_view xs) whole whole) (sym c.new-all.ensures.items) (behind_start c.args.asked tree.more_phrases whole);
}

pub values-loop-phrase-preserved : goal.values-loop-phrase-preserved
values-loop-phrase-preserved t c =
    let s = c.args.setting.now in
    let d = declared_by s in
    let l = c.loop-phrase in
    let whole = values_settled d c.args.scope.now.locals (phrases_view c.args.phrases.now) in
    record {
      inside = inside_then c.enter_all.new.scope.locals c.relation.new.scope.locals l.scope.locals c.args.scope.now.locals c.in_ok-enter_all.ensures.inside c.in_ok-value.ensures.locals l.invariant.inside;
      asks = values_ask c.args.asked c.args.phrases.now l.phrase-index c.phrase-item.result c.loop-phrase-test.true c.phrase-item.is l.invariant.asks;
      left = value_more c.args.asked d (same_types s c.requires.tables) whole c.args.phrases.now l.scope.locals l.phrase-index l.all.items l.invariant.left
          c.phrase-item.result c.loop-phrase-test.true c.phrase-item.is c.in_ok-value.value c.in_ok-value.arity c.relation.new.scope.locals c.enter_all.new.scope.locals c.push.new.self.items c.in_ok-push.ensures.items c.in_ok-value.ensures.locals c.in_ok-value.ensures.value c.in_ok-enter_all.ensures.alike l.invariant.asks;
    }

pub values-returns-in_err-value-clause-value : goal.values-returns-in_err-value-clause-value
values-returns-in_err-value-clause-value t c =
    let s = c.args.setting.now in
    let d = declared_by s in
    let l = c.loop-phrase in
    let whole = values_settled d c.args.scope.now.locals (phrases_view c.args.phrases.now) in
    let p = err_from_is_err_and c.from_residual.result c.from_residual.ensures.1 in
    rw (p.1, p.2) (value_fault c.args.asked d (same_types s c.requires.tables) whole c.args.phrases.now l.scope.locals l.phrase-index l.all.items l.invariant.left c.phrase-item.result c.loop-phrase-test.true c.phrase-item.is c.in_err-value.field-0.0 c.in_err-value.ensures.value)

pub values-returns-in_err-value-clause-inside : goal.values-returns-in_err-value-clause-inside
values-returns-in_err-value-clause-inside t c = subst (λ (ls : List Local). IsInside ls c.args.scope.now.locals) (sym c.in_err-value.ensures.locals) c.loop-phrase.invariant.inside

pub values-returns-in_err-enter_all-clause-inside : goal.values-returns-in_err-enter_all-clause-inside
values-returns-in_err-enter_all-clause-inside t c =
    inside_then c.enter_all.new.scope.locals c.relation.new.scope.locals c.loop-phrase.scope.locals c.args.scope.now.locals c.in_err-enter_all.ensures.inside c.in_ok-value.ensures.locals c.loop-phrase.invariant.inside

pub values-returns-in_err-push-clause-inside : goal.values-returns-in_err-push-clause-inside
values-returns-in_err-push-clause-inside t c =
    inside_then c.enter_all.new.scope.locals c.relation.new.scope.locals c.loop-phrase.scope.locals c.args.scope.now.locals c.in_ok-enter_all.ensures.inside c.in_ok-value.ensures.locals c.loop-phrase.invariant.inside

pub values-returns-clause-value : goal.values-returns-clause-value
values-returns-clause-value t c =
    let s = c.args.setting.now in
    let d = declared_by s in
    let l = c.loop-phrase in
    let whole = values_settled d c.args.scope.now.locals (phrases_view c.args.phrases.now) in
    value_all c.args.asked d (same_types s c.requires.tables) whole c.args.phrases.now l.scope.locals l.phrase-index l.all.items l.invariant.left c.loop-phrase-test.false

pub all_arguments-relation-requires : goal.all_arguments-relation-requires
all_arguments-relation-requires t c =
    let l = c.loop-phrase in (
      search (rules, the_lemmas, at_most),
      (
        c.requires.tables,
        subst (λ g. IsGiven (declared_by c.args.setting.now) l.scope.locals g (phrase_view c.phrase-item.result)) (sym c.take.ensures.value)
            (subst (λ (ls : List Local). IsGiven (declared_by c.args.setting.now) ls l.given (phrase_view c.phrase-item.result)) (sym l.invariant.same)
            (given_here (declared_by c.args.setting.now) c.args.scope.now.locals c.args.phrases.now l.given l.phrase-index c.phrase-item.result c.loop-phrase-test.true c.phrase-item.is l.invariant.given)),
      ),
    )

pub all_steps-step_settled-requires : goal.all_steps-step_settled-requires
all_steps-step_settled-requires t c =
    let d = declared_by c.args.setting.now in
    let l = c.loop-step in (
      search (rules, the_lemmas, at_most),
      (
        c.requires.tables,
        subst (λ g. IsGivenBefore d l.scope.locals g (tree.step_first (step_view c.step-item.result) no_steps)) (sym c.take.ensures.value)
            (subst (λ (ls : List Local). IsGivenBefore d ls l.given (tree.step_first (step_view c.step-item.result) no_steps)) (sym l.invariant.same)
            (given_step d c.args.scope.now.locals l.given c.args.steps.now l.step-index c.step-item.result c.loop-step-test.true c.step-item.is l.invariant.given)),
      ),
    )

pub after-all_steps-requires : goal.after-all_steps-requires
after-all_steps-requires t c = (
  search rules,
  (
    c.requires.tables,
    (
      sym c.asks_in_steps-asked.ensures,
      subst (λ (ls : List Local). IsGivenBefore (declared_by c.args.setting.now) ls c.args.given (steps_of (map step_view c.args.steps.now))) (sym c.type_where.ensures.locals) c.requires.given,
    ),
  ),
)

pub behind-operands-requires : goal.behind-operands-requires
behind-operands-requires t c = (search rules, (c.requires, sym c.asks_in_links-asked.ensures))

pub argument_asked-returns-in-Some-Brackets-clause-value : goal.argument_asked-returns-in-Some-Brackets-clause-value
argument_asked-returns-in-Some-Brackets-clause-value t c =
    let d = declared_by c.args.setting.now in
    let ls = c.args.scope.now.locals in
    let xs = c.in-Some-Brackets.arguments in
    let there = sym (ap option_copied c.in-Some-Brackets.is) ∙ c.first.ensures.value in
    let same = c.deref.ensures.value ∙ ap (λ (v : Vec Phrase Global). v.items) c.in-Some-Brackets.arguments-is in
    subst (λ r. Gives (option_map settled_view) c.argument_first.result r)
    (ap (λ (ys : List Phrase). argument_first d ls (phrases_view ys)) same
    ∙ sym (asked_brackets d ls (phrase_view c.args.head.now) (steps_of (map step_view c.args.steps.now)) c.in-Some-Brackets.field-0-0 (phrases_view xs.items) (steps_of (map step_view (drop 1 c.args.steps.now))) (sym c.if-not-is_shared.ensures)
    (brackets_come c.args.steps.now c.in-Some-Brackets.field-0.now c.in-Some-Brackets.field-0-0 xs there c.in-Some-Brackets.field-0-is)))
    c.argument_first.ensures.value

pub argument_asked-returns-in-Some-Join-clause-value : goal.argument_asked-returns-in-Some-Join-clause-value
argument_asked-returns-in-Some-Join-clause-value t c =
    let there = sym (ap option_copied c.in-Some-Join.is) ∙ c.first.ensures.value in
    asked_join (declared_by c.args.setting.now) c.args.scope.now.locals (phrase_view c.args.head.now) (steps_of (map step_view c.args.steps.now)) c.in-Some-Join.field-0-0 (phrase_view c.in-Some-Join.field-0-1) (steps_of (map step_view (drop 1 c.args.steps.now)))
    (join_comes c.args.steps.now c.in-Some-Join.field-0.now c.in-Some-Join.field-0-0 c.in-Some-Join.field-0-1 there c.in-Some-Join.field-0-is)

pub head_settled-returns-in_ok-tops-in-Some-clause-value : goal.head_settled-returns-in_ok-tops-in-Some-clause-value
head_settled-returns-in_ok-tops-in-Some-clause-value t c =
    let d = declared_by c.args.setting.now in
    let ls = c.args.scope.now.locals in
    subst (λ r. Gives settled_view c.part.result r)
    (head_by d ls c.type_inside.new.scope.locals c.args.given.now c.in-Some.argument c.in_ok-of-in-Some.of c.in_ok-tops-in-Some.tops (phrase_view c.args.head.now) c.in_ok-of-in-Some.ensures.locals c.in-Some.is c.in_ok-of-in-Some.ensures.value c.in_ok-tops-in-Some.ensures)
    c.part.ensures.value

pub variables_entered-returns-clause-value : goal.variables_entered-returns-clause-value
variables_entered-returns-clause-value t c =
    entered_unless c.args.asked domains_seen c.left_at_a_fault.new.scope.locals c.domains-made.new.scope.locals (domains_settled true (declared_by c.args.setting.now) c.args.scope.now.locals (domains_of (map domain_view c.args.variables.now)))
    c.left_at_a_fault.result c.domains-made.result c.left_at_a_fault.ensures.made c.left_at_a_fault.ensures.ok c.domains-made.ensures.value

pub values_entered-returns-clause-value : goal.values_entered-returns-clause-value
values_entered-returns-clause-value t c =
    entered_unless c.args.asked phrases_seen c.left_at_a_fault.new.scope.locals c.values-made.new.scope.locals (values_settled (declared_by c.args.setting.now) c.args.scope.now.locals (phrases_view c.args.phrases.now))
    c.left_at_a_fault.result c.values-made.result c.left_at_a_fault.ensures.made c.left_at_a_fault.ensures.ok c.values-made.ensures.value

pub variables_entered-returns-clause-err : goal.variables_entered-returns-clause-err
variables_entered-returns-clause-err t c =
    left_unless c.left_at_a_fault.result c.depth-depth.result c.left_at_a_fault.new.scope.locals c.domains-made.new.scope.locals c.args.scope.now.locals c.left_at_a_fault.ensures.err c.domains-made.ensures.inside (sym c.depth-depth.ensures)

pub variables_entered-returns-clause-inside : goal.variables_entered-returns-clause-inside
variables_entered-returns-clause-inside t c =
    inside_unless c.left_at_a_fault.result c.depth-depth.result c.left_at_a_fault.new.scope.locals c.domains-made.new.scope.locals c.args.scope.now.locals c.left_at_a_fault.ensures.ok c.left_at_a_fault.ensures.err c.domains-made.ensures.inside (sym c.depth-depth.ensures)

pub values_entered-returns-clause-err : goal.values_entered-returns-clause-err
values_entered-returns-clause-err t c =
    left_unless c.left_at_a_fault.result c.depth-depth.result c.left_at_a_fault.new.scope.locals c.values-made.new.scope.locals c.args.scope.now.locals c.left_at_a_fault.ensures.err c.values-made.ensures.inside (sym c.depth-depth.ensures)

pub values_entered-returns-clause-inside : goal.values_entered-returns-clause-inside
values_entered-returns-clause-inside t c =
    inside_unless c.left_at_a_fault.result c.depth-depth.result c.left_at_a_fault.new.scope.locals c.values-made.new.scope.locals c.args.scope.now.locals c.left_at_a_fault.ensures.ok c.left_at_a_fault.ensures.err c.values-made.ensures.inside (sym c.depth-depth.ensures)

pub formula_inside-returns-clause-locals : goal.formula_inside-returns-clause-locals
formula_inside-returns-clause-locals t c = λ outer is few. c.leave_until.ensures.left is.0 outer (c.formula-settled.ensures.locals ∙ is.1) few

pub call-returns-in_err-kind-clause-value : goal.call-returns-in_err-kind-clause-value
call-returns-in_err-kind-clause-value t c =
    let s = c.args.setting.now in
    let e = c.in_err-kind.field-0.0 in
    let p = err_from_is_err_and c.from_residual-in_err-kind.result c.from_residual-in_err-kind.ensures.1 in
    rw (p.1, p.2) (inr (call_fault s c.args.scope.now.locals c.args.place c.args.number c.args.phrases.now c.in_ok-arguments.arguments
    c.in_ok-arguments.ensures.value c.deref.result.now c.deref.ensures.value (option_copied c.get.result) (entry_read (λ (x : Bor Header). x.now) c.deref.result.now c.args.number c.get.result c.get.ensures.lookup.1 c.get.ensures.lookup.3)
    c.deref-2.result.now c.deref-2.ensures.value (Err e) c.in_err-kind.ensures e refl))

pub call-returns-clause-value : goal.call-returns-clause-value
call-returns-clause-value t c =
    let s = c.args.setting.now in
    let k = c.in_ok-kind.kind in
    call_is s c.args.scope.now.locals c.args.place c.args.number c.args.phrases.now c.in_ok-arguments.arguments
    c.in_ok-arguments.ensures.value c.deref.result.now c.deref.ensures.value (option_copied c.get.result) (entry_read (λ (x : Bor Header). x.now) c.deref.result.now c.args.number c.get.result c.get.ensures.lookup.1 c.get.ensures.lookup.3)
    c.deref-2.result.now c.deref-2.ensures.value (Ok (kind_view k)) c.in_ok-kind.ensures k refl

pub all_arguments-loop-phrase-init : goal.all_arguments-loop-phrase-init
all_arguments-loop-phrase-init t c = record {
  same = refl;
  given = c.requires.given;
  left = subst (λ xs. ArgumentsFound (declared_by c.args.setting.now) c.args.scope.now.locals c.args.phrases.now c.args.phrases.now xs c.new-arities.result.items) (sym c.new-others.ensures.items)
      (subst (λ ns. ArgumentsFound (declared_by c.args.setting.now) c.args.scope.now.locals c.args.phrases.now c.args.phrases.now [] ns) (sym c.new-arities.ensures.items)
      (argument_start (declared_by c.args.setting.now) c.args.scope.now.locals c.args.phrases.now));
}

pub all_arguments-loop-phrase-preserved : goal.all_arguments-loop-phrase-preserved
all_arguments-loop-phrase-preserved t c =
    let l = c.loop-phrase in
    record {
      same = c.in_ok-argument.ensures.locals ∙ l.invariant.same;
      given = subst (λ g. IsGivenFirst (declared_by c.args.setting.now) c.args.scope.now.locals g (phrases_view (drop (l.phrase-index + 1) c.args.phrases.now))) (sym c.take.ensures.after) (λ x rest is. tt);
      left = argument_more (declared_by c.args.setting.now) c.args.scope.now.locals c.args.phrases.now l.scope.locals l.invariant.same l.phrase-index c.phrase-item.result c.loop-phrase-test.true c.phrase-item.is l.all.phrases.items l.all.arities.items l.invariant.left c.in_ok-argument.argument c.in_ok-argument.arity c.first_place.result
          c.put_argument.new.all.phrases.items c.put_argument.new.all.arities.items c.in_ok-put_argument.ensures.phrases c.in_ok-put_argument.ensures.arities c.first_place.ensures c.in_ok-argument.ensures.value;
    }

pub all_arguments-returns-in_err-argument-clause-value : goal.all_arguments-returns-in_err-argument-clause-value
all_arguments-returns-in_err-argument-clause-value t c =
    let l = c.loop-phrase in
    let p = err_from_is_err_and c.from_residual.result c.from_residual.ensures.1 in
    rw (p.1, p.2) (argument_fault (declared_by c.args.setting.now) c.args.scope.now.locals c.args.phrases.now l.scope.locals l.invariant.same l.phrase-index c.phrase-item.result c.loop-phrase-test.true c.phrase-item.is l.all.phrases.items l.all.arities.items l.invariant.left c.in_err-argument.field-0.0 c.in_err-argument.ensures.value)

pub all_arguments-returns-clause-value : goal.all_arguments-returns-clause-value
all_arguments-returns-clause-value t c =
    let l = c.loop-phrase in
    argument_all (declared_by c.args.setting.now) c.args.scope.now.locals c.args.phrases.now l.phrase-index l.all.phrases.items l.all.arities.items c.loop-phrase-test.false l.invariant.left

pub step_settled-all_arguments-others-requires : goal.step_settled-all_arguments-others-requires
step_settled-all_arguments-others-requires t c = (
  search (rules, the_lemmas, at_most),
  (
    c.requires.tables,
    subst (λ xs. IsGivenFirst (declared_by c.args.setting.now) c.args.scope.now.locals c.args.given (phrases_view xs)) (sym c.deref.ensures.value)
        (given_brackets (declared_by c.args.setting.now) c.args.scope.now.locals c.args.given c.args.step.now c.in-Brackets.place c.in-Brackets.phrases c.in-Brackets.is c.requires.given),
  ),
)

pub step_settled-returns-in-Join-clause-value : goal.step_settled-returns-in-Join-clause-value
step_settled-returns-in-Join-clause-value t c =
    join_whole (declared_by c.args.setting.now) c.args.scope.now.locals c.args.left (kind_view c.args.kind) c.args.of.now c.args.step.now c.join_step.result c.in-Join.place c.in-Join.operand c.member-second.result c.joined.result
    c.in-Join.is c.member-second.ensures.value c.joined.ensures c.join_step.ensures

pub step_settled-returns-in-Brackets-clause-value : goal.step_settled-returns-in-Brackets-clause-value
step_settled-returns-in-Brackets-clause-value t c =
    brackets_whole (declared_by c.args.setting.now) c.args.scope.now.locals c.args.left (kind_view c.args.kind) c.args.of.now c.args.step.now c.brackets_step.result c.in-Brackets.place c.in-Brackets.phrases c.deref.result.now c.all_arguments-others.result c.bracketed.result
    c.in-Brackets.is c.deref.ensures.value c.all_arguments-others.ensures.value c.bracketed.ensures c.brackets_step.ensures

pub link_settled-returns-then-is_connective-clause-value : goal.link_settled-returns-then-is_connective-clause-value
link_settled-returns-then-is_connective-clause-value t c =
    connected_whole (declared_by c.args.setting.now) c.args.scope.now.locals c.args.left (kind_view c.args.kind) c.args.of.now c.args.link.now c.connected.result c.formula-operand.result (sym c.is_connective.ensures ∙ c.if-is_connective.true) c.formula-operand.ensures.value c.connected.ensures

pub link_settled-returns-else-is_connective-clause-value : goal.link_settled-returns-else-is_connective-clause-value
link_settled-returns-else-is_connective-clause-value t c =
    combined_whole (declared_by c.args.setting.now) c.args.scope.now.locals c.args.left (kind_view c.args.kind) c.args.of.now c.args.link.now c.combined.result c.operand-operand.result (sym c.is_connective.ensures ∙ c.if-is_connective.false) c.operand-operand.ensures.value c.combined.ensures

pub chain-returns-clause-value : goal.chain-returns-clause-value
chain-returns-clause-value t c =
    let d = declared_by c.args.setting.now in
    let ls = c.args.scope.now.locals in
    chain_whole d ls c.chain_of.result (phrase_view c.args.first.now) (links_of (map link_view c.args.links.now)) c.first_place-left.result (c.in_ok-first.first, c.in_ok-first.kind) c.plain.new.scope.locals c.behind-others.result
    c.first_place-left.ensures c.in_ok-first.ensures.value c.in_ok-first.ensures.locals c.behind-others.ensures.value c.chain_of.ensures

pub chain-returns-in_err-first-clause-value : goal.chain-returns-in_err-first-clause-value
chain-returns-in_err-first-clause-value t c =
    let d = declared_by c.args.setting.now in
    let ls = c.args.scope.now.locals in
    let x = phrase_view c.args.first.now in
    let links = links_of (map link_view c.args.links.now) in
    let p = err_from_is_err_and c.from_residual.result c.from_residual.ensures.1 in
    rw (p.1, p.2) (told_then c.in_err-first.field-0.0 (settled d ls [] x) (λ y. chain_built y.tree (links_settled d ls (first_place x) y.kind (type_in d ls y.tree) links)) (settled d ls [] (tree.chain x links)) refl c.in_err-first.ensures.value)

pub path-after-others-requires : goal.path-after-others-requires
path-after-others-requires t c =
    let d = declared_by c.args.setting.now in
    let ls = c.args.scope.now.locals in
    let x = phrase_view c.args.head.now in
    let steps = steps_of (map step_view c.args.steps.now) in (
      first_of (omega (arith, c.decreases), search (rules, the_lemmas, at_most)),
      (
        c.requires,
        subst (λ (ms : List Local). IsGivenBefore d ms c.in_ok-given.given steps) (sym (c.in_ok-head.ensures.locals ∙ c.in_ok-given.ensures.locals)) (asked_before d ls x steps c.in_ok-given.given c.in_ok-given.ensures.value),
      ),
    )

pub path-returns-clause-value : goal.path-returns-clause-value
path-returns-clause-value t c =
    let d = declared_by c.args.setting.now in
    let ls = c.args.scope.now.locals in
    path_whole d ls c.path_of.result (phrase_view c.args.head.now) (steps_of (map step_view c.args.steps.now)) c.first_place-left.result c.in_ok-given.given (c.in_ok-head.head, c.in_ok-head.kind) c.argument_asked.new.scope.locals c.head_settled.new.scope.locals c.after-others.result
    c.first_place-left.ensures c.in_ok-given.ensures.value c.in_ok-given.ensures.locals c.in_ok-head.ensures.value c.in_ok-head.ensures.locals c.after-others.ensures.value c.path_of.ensures

pub path-returns-in_err-given-clause-value : goal.path-returns-in_err-given-clause-value
path-returns-in_err-given-clause-value t c =
    let d = declared_by c.args.setting.now in
    let ls = c.args.scope.now.locals in
    let x = phrase_view c.args.head.now in
    let steps = steps_of (map step_view c.args.steps.now) in
    let p = err_from_is_err_and c.from_residual.result c.from_residual.ensures.1 in
    rw (p.1, p.2) (path_asked_told d ls [] x steps c.in_err-given.field-0.0 c.in_err-given.ensures.value)

pub path-returns-in_err-head-clause-value : goal.path-returns-in_err-head-clause-value
path-returns-in_err-head-clause-value t c =
    let d = declared_by c.args.setting.now in
    let ls = c.args.scope.now.locals in
    let x = phrase_view c.args.head.now in
    let steps = steps_of (map step_view c.args.steps.now) in
    let p = err_from_is_err_and c.from_residual-in_err-head.result c.from_residual-in_err-head.ensures.1 in
    rw (p.1, p.2) (path_head_told d ls [] x steps (option_map settled_view c.in_ok-given.given) c.in_ok-given.ensures.value c.in_err-head.field-0.0
    (subst (λ (ms : List Local). IsTold c.in_err-head.field-0.0 (settled d ms (tops_of d ms (option_map settled_view c.in_ok-given.given)) x)) c.in_ok-given.ensures.locals c.in_err-head.ensures.value))

pub compared-returns-clause-value : goal.compared-returns-clause-value
compared-returns-clause-value t c =
    let d = declared_by c.args.setting.now in
    let ls = c.args.scope.now.locals in
    let a = phrase_view c.args.left.now in
    let b = phrase_view c.args.right.now in
    compared_whole d ls c.compared_of.result a b c.args.comparing c.first_place.result c.in_ok-first.first c.plain.new.scope.locals c.plain-second.result
    c.first_place.ensures c.in_ok-first.ensures.value c.in_ok-first.ensures.locals c.plain-second.ensures.value c.compared_of.ensures

pub compared-returns-in_err-first-clause-value : goal.compared-returns-in_err-first-clause-value
compared-returns-in_err-first-clause-value t c =
    let d = declared_by c.args.setting.now in
    let ls = c.args.scope.now.locals in
    let a = phrase_view c.args.left.now in
    let b = phrase_view c.args.right.now in
    let p = err_from_is_err_and c.from_residual.result c.from_residual.ensures.1 in
    rw (p.1, p.2) (told_then c.in_err-first.field-0.0 (settled d ls [] a) (λ z. compared_built (first_place a) z c.args.comparing b (settled d ls [] b)) (settled d ls [] (tree.compared a c.args.comparing b)) refl c.in_err-first.ensures.value)

pub implied-returns-clause-value : goal.implied-returns-clause-value
implied-returns-clause-value t c =
    let d = declared_by c.args.setting.now in
    let ls = c.args.scope.now.locals in
    let a = phrase_view c.args.left.now in
    let b = phrase_view c.args.right.now in
    implied_whole d ls c.implies_of.result a b c.args.place c.in_ok-premise.premise c.formula.new.scope.locals c.formula-right.result
    c.in_ok-premise.ensures.value c.in_ok-premise.ensures.locals c.formula-right.ensures.value c.implies_of.ensures

pub implied-returns-in_err-premise-clause-value : goal.implied-returns-in_err-premise-clause-value
implied-returns-in_err-premise-clause-value t c =
    let d = declared_by c.args.setting.now in
    let ls = c.args.scope.now.locals in
    let a = phrase_view c.args.left.now in
    let b = phrase_view c.args.right.now in
    let p = err_from_is_err_and c.from_residual.result c.from_residual.ensures.1 in
    rw (p.1, p.2) (told_then c.in_err-premise.field-0.0 (formula_from a (settled d ls [] a)) (λ u. implies_built u c.args.place (formula_from b (settled d ls [] b))) (settled d ls [] (tree.implies a c.args.place b)) refl c.in_err-premise.ensures.value)

pub or_else-returns-clause-value : goal.or_else-returns-clause-value
or_else-returns-clause-value t c =
    let d = declared_by c.args.setting.now in
    let ls = c.args.scope.now.locals in
    let a = phrase_view c.args.left.now in
    let b = phrase_view c.args.right.now in
    let other = phrase_view c.args.other.now in
    else_whole d ls c.else_of.result a b other c.args.place c.in_ok-premise.premise c.formula.new.scope.locals c.formula-second.new.scope.locals c.formula-second.result c.formula-other.result
    c.in_ok-premise.ensures.value c.in_ok-premise.ensures.locals c.formula-second.ensures.value c.formula-second.ensures.locals c.formula-other.ensures.value c.else_of.ensures

pub or_else-returns-in_err-premise-clause-value : goal.or_else-returns-in_err-premise-clause-value
or_else-returns-in_err-premise-clause-value t c =
    let d = declared_by c.args.setting.now in
    let ls = c.args.scope.now.locals in
    let a = phrase_view c.args.left.now in
    let b = phrase_view c.args.right.now in
    let other = phrase_view c.args.other.now in
    let p = err_from_is_err_and c.from_residual.result c.from_residual.ensures.1 in
    rw (p.1, p.2) (told_then c.in_err-premise.field-0.0 (formula_from a (settled d ls [] a)) (λ u. else_built u c.args.place (formula_from b (settled d ls [] b)) (formula_from other (settled d ls [] other))) (settled d ls [] (tree.implies_else a c.args.place b other)) refl c.in_err-premise.ensures.value)

pub quantified-variables_entered-requires : goal.quantified-variables_entered-requires
quantified-variables_entered-requires t c =
    let d = declared_by c.args.setting.now in
    let ls = c.args.scope.now.locals in
    let all = domains_of (map domain_view c.args.variables.now) in
    let x = phrase_view c.args.inner.now in
    (first_of (omega (arith, c.decreases), search (rules, the_lemmas, at_most)), (c.requires, asks_first (shared_in_domains all) (shared_in x) c.asks_quantified-asked.result c.asks_quantified-asked.ensures))

pub quantified-returns-clause-value : goal.quantified-returns-clause-value
quantified-returns-clause-value t c =
    let d = declared_by c.args.setting.now in
    let ls = c.args.scope.now.locals in
    let all = domains_of (map domain_view c.args.variables.now) in
    let x = phrase_view c.args.inner.now in
    quantified_whole d ls c.quantified_of.result (same_types c.args.setting.now c.requires) c.asks_quantified-asked.result c.variables_entered.new.scope.locals c.args.place x c.formula_inside-inner.result c.args.quantifier all c.in_ok-others.others
    (asks_either (shared_in_domains all) (shared_in x) c.asks_quantified-asked.result c.asks_quantified-asked.ensures) c.in_ok-others.ensures.value c.formula_inside-inner.ensures.value c.quantified_of.ensures

pub quantified-returns-in_err-others-clause-value : goal.quantified-returns-in_err-others-clause-value
quantified-returns-in_err-others-clause-value t c =
    let d = declared_by c.args.setting.now in
    let ls = c.args.scope.now.locals in
    let all = domains_of (map domain_view c.args.variables.now) in
    let x = phrase_view c.args.inner.now in
    let p = err_from_is_err_and c.from_residual.result c.from_residual.ensures.1 in
    rw (p.1, p.2) (told_then c.in_err-others.field-0.0 (domains_settled true d ls all) (λ ys. formula_from x (settled d ys.1 [] x) >>= λ y. Ok (record { tree = tree.quantified c.args.quantifier c.args.place ys.0 y; kind = formula })) (settled d ls [] (tree.quantified c.args.quantifier c.args.place all x)) refl c.in_err-others.ensures.value)

pub quantified-returns-clause-locals : goal.quantified-returns-clause-locals
quantified-returns-clause-locals t c =
    c.formula_inside-inner.ensures.locals c.args.scope.now.locals c.in_ok-others.ensures.inside (sym c.depth-depth.ensures)

pub in_let-values_entered-requires : goal.in_let-values_entered-requires
in_let-values_entered-requires t c =
    let d = declared_by c.args.setting.now in
    let ls = c.args.scope.now.locals in
    let all = phrases_view c.args.phrases.now in
    let x = phrase_view c.args.inner.now in
    (first_of (omega (arith, c.decreases), search (rules, the_lemmas, at_most)), (c.requires, asks_first (shared_among all) (shared_in x) c.asks_let-asked.result c.asks_let-asked.ensures))

pub in_let-returns-clause-value : goal.in_let-returns-clause-value
in_let-returns-clause-value t c =
    let d = declared_by c.args.setting.now in
    let ls = c.args.scope.now.locals in
    let all = phrases_view c.args.phrases.now in
    let x = phrase_view c.args.inner.now in
    let_whole d ls c.let_of.result (same_types c.args.setting.now c.requires) c.asks_let-asked.result c.values_entered.new.scope.locals c.args.place x c.formula_inside-inner.result all c.in_ok-others.others
    (asks_either (shared_among all) (shared_in x) c.asks_let-asked.result c.asks_let-asked.ensures) c.in_ok-others.ensures.value c.formula_inside-inner.ensures.value c.let_of.ensures

pub in_let-returns-in_err-others-clause-value : goal.in_let-returns-in_err-others-clause-value
in_let-returns-in_err-others-clause-value t c =
    let d = declared_by c.args.setting.now in
    let ls = c.args.scope.now.locals in
    let all = phrases_view c.args.phrases.now in
    let x = phrase_view c.args.inner.now in
    let p = err_from_is_err_and c.from_residual.result c.from_residual.ensures.1 in
    rw (p.1, p.2) (told_then c.in_err-others.field-0.0 (values_settled d ls all) (λ ys. formula_from x (settled d ys.1 [] x) >>= λ y. Ok (record { tree = tree.bound_by_let c.args.place ys.0 y; kind = formula })) (settled d ls [] (tree.bound_by_let c.args.place all x)) refl c.in_err-others.ensures.value)

pub in_let-returns-clause-locals : goal.in_let-returns-clause-locals
in_let-returns-clause-locals t c =
    c.formula_inside-inner.ensures.locals c.args.scope.now.locals c.in_ok-others.ensures.inside (sym c.depth-depth.ensures)

pub formula-returns-clause-value : goal.formula-returns-clause-value
formula-returns-clause-value t c =
    let d = declared_by c.args.setting.now in
    let ls = c.args.scope.now.locals in
    let x = phrase_view c.args.phrase.now in
    gives_by_answer settled_view phrase_view (formula_from x) refl c.plain-settled.result (settled d ls [] x) c.formula_of.result c.plain-settled.ensures.value c.formula_of.ensures

pub prefixed-returns-clause-value : goal.prefixed-returns-clause-value
prefixed-returns-clause-value t c =
    let d = declared_by c.args.setting.now in
    let ls = c.args.scope.now.locals in
    let x = phrase_view c.args.phrase.now in
    gives_by_answer settled_view settled_view (prefixed_built c.args.prefix c.args.place x) refl c.plain-settled.result (settled d ls [] x) c.prefixed_of.result c.plain-settled.ensures.value c.prefixed_of.ensures

pub relation-returns-in-Some-clause-value : goal.relation-returns-in-Some-clause-value
relation-returns-in-Some-clause-value t c =
    let d = declared_by c.args.setting.now in
    let ls = c.args.scope.now.locals in
    let x = phrase_view c.args.phrase.now in
    subst (λ (r : Result Settled TypeFault). Gives relation_view c.relation_of.result (relation_built x r)) (sym (subst (λ (g : Option (Phrase × Kind)). IsGiven d ls g x) c.in-Some.is c.requires.given)) c.relation_of.ensures

pub relation-returns-in-None-clause-value : goal.relation-returns-in-None-clause-value
relation-returns-in-None-clause-value t c =
    let d = declared_by c.args.setting.now in
    let ls = c.args.scope.now.locals in
    let x = phrase_view c.args.phrase.now in
    gives_by_answer settled_view relation_view (relation_built x) refl c.plain-settled.result (settled d ls [] x) c.relation_of-in-None.result c.plain-settled.ensures.value c.relation_of-in-None.ensures

pub part-returns-in-Refers-clause-value : goal.part-returns-in-Refers-clause-value
part-returns-in-Refers-clause-value t c =
    refers_given (declared_by c.args.setting.now) c.args.scope.now.locals c.args.tops.now c.args.phrase.now c.referent_settled.result c.in-Refers.place c.in-Refers.name c.in-Refers.is c.referent_settled.ensures

pub part-returns-in-Called-clause-value : goal.part-returns-in-Called-clause-value
part-returns-in-Called-clause-value t c =
    call_given (declared_by c.args.setting.now) c.args.scope.now.locals c.args.tops.now c.args.phrase.now c.call.result c.in-Called.place c.in-Called.number c.in-Called.given c.deref.result.now c.in-Called.is c.deref.ensures.value c.call.ensures.value

pub part-returns-in-Constant-clause-value : goal.part-returns-in-Constant-clause-value
part-returns-in-Constant-clause-value t c =
    constant_given (declared_by c.args.setting.now) c.args.scope.now.locals c.args.tops.now c.args.phrase.now (Ok c.constant_settled.result) c.in-Constant.constant c.in-Constant.place c.constant_settled.result c.in-Constant.is c.constant_settled.ensures

pub part-returns-in-Bracketed-clause-value : goal.part-returns-in-Bracketed-clause-value
part-returns-in-Bracketed-clause-value t c =
    brackets_given (declared_by c.args.setting.now) c.args.scope.now.locals c.args.tops.now c.args.phrase.now c.bracketed_of.result c.in-Bracketed.place c.in-Bracketed.inner c.deref-in-Bracketed.result.now c.in-Bracketed.is c.deref-in-Bracketed.ensures
    (gives_by_answer settled_view settled_view (bracketed_built c.in-Bracketed.place) refl c.part.result (settled (declared_by c.args.setting.now) c.args.scope.now.locals c.args.tops.now (phrase_view c.deref-in-Bracketed.result.now)) c.bracketed_of.result c.part.ensures.value c.bracketed_of.ensures)

pub part-returns-in-Block-clause-value : goal.part-returns-in-Block-clause-value
part-returns-in-Block-clause-value t c =
    block_given (declared_by c.args.setting.now) c.args.scope.now.locals c.args.tops.now c.args.phrase.now c.block_of.result c.in-Block.place c.in-Block.phrases c.deref-in-Block.result.now c.in-Block.is c.deref-in-Block.ensures.value
    (gives_by_answer phrases_seen settled_view (block_built c.in-Block.place) refl c.formulas.result (formulas_settled (declared_by c.args.setting.now) c.args.scope.now.locals (phrases_view c.deref-in-Block.result.now)) c.block_of.result c.formulas.ensures.value c.block_of.ensures)

pub part-returns-in-Prefixed-clause-value : goal.part-returns-in-Prefixed-clause-value
part-returns-in-Prefixed-clause-value t c =
    prefixed_given (declared_by c.args.setting.now) c.args.scope.now.locals c.args.tops.now c.args.phrase.now c.prefixed.result c.in-Prefixed.prefix c.in-Prefixed.place c.in-Prefixed.inner c.deref-in-Prefixed.result.now c.in-Prefixed.is c.deref-in-Prefixed.ensures c.prefixed.ensures.value

pub part-returns-in-Chain-clause-value : goal.part-returns-in-Chain-clause-value
part-returns-in-Chain-clause-value t c =
    chain_given (declared_by c.args.setting.now) c.args.scope.now.locals c.args.tops.now c.args.phrase.now c.chain.result c.in-Chain.first c.in-Chain.links c.deref-in-Chain.result.now c.deref-in-Chain-2.result.now c.in-Chain.is c.deref-in-Chain.ensures c.deref-in-Chain-2.ensures.value c.chain.ensures.value

pub part-returns-in-Path-clause-value : goal.part-returns-in-Path-clause-value
part-returns-in-Path-clause-value t c =
    path_given (declared_by c.args.setting.now) c.args.scope.now.locals c.args.tops.now c.args.phrase.now c.path.result c.in-Path.head c.in-Path.steps c.deref-in-Path.result.now c.deref-in-Path-2.result.now c.in-Path.is c.deref-in-Path.ensures c.deref-in-Path-2.ensures.value c.path.ensures.value

pub part-returns-in-Compared-clause-value : goal.part-returns-in-Compared-clause-value
part-returns-in-Compared-clause-value t c =
    compared_given (declared_by c.args.setting.now) c.args.scope.now.locals c.args.tops.now c.args.phrase.now c.compared.result c.in-Compared.left c.in-Compared.right c.in-Compared.how c.deref-in-Compared.result.now c.deref-in-Compared-2.result.now c.in-Compared.is c.deref-in-Compared.ensures c.deref-in-Compared-2.ensures c.compared.ensures.value

pub part-returns-in-Implies-clause-value : goal.part-returns-in-Implies-clause-value
part-returns-in-Implies-clause-value t c =
    implied_given (declared_by c.args.setting.now) c.args.scope.now.locals c.args.tops.now c.args.phrase.now c.implied.result c.in-Implies.left c.in-Implies.right c.in-Implies.place c.deref-in-Implies.result.now c.deref-in-Implies-2.result.now c.in-Implies.is c.deref-in-Implies.ensures c.deref-in-Implies-2.ensures c.implied.ensures.value

pub part-returns-in-ImpliesElse-clause-value : goal.part-returns-in-ImpliesElse-clause-value
part-returns-in-ImpliesElse-clause-value t c =
    else_given (declared_by c.args.setting.now) c.args.scope.now.locals c.args.tops.now c.args.phrase.now c.or_else.result c.in-ImpliesElse.left c.in-ImpliesElse.right c.in-ImpliesElse.other c.in-ImpliesElse.place c.deref-in-ImpliesElse.result.now c.deref-in-ImpliesElse-2.result.now c.deref-in-ImpliesElse-3.result.now c.in-ImpliesElse.is c.deref-in-ImpliesElse.ensures c.deref-in-ImpliesElse-2.ensures c.deref-in-ImpliesElse-3.ensures c.or_else.ensures.value

pub part-returns-in-Quantified-clause-value : goal.part-returns-in-Quantified-clause-value
part-returns-in-Quantified-clause-value t c =
    quantified_given (declared_by c.args.setting.now) c.args.scope.now.locals c.args.tops.now c.args.phrase.now c.quantified.result c.in-Quantified.quantifier c.in-Quantified.place c.in-Quantified.variables c.in-Quantified.inner c.deref-in-Quantified.result.now c.deref-in-Quantified-2.result.now c.in-Quantified.is c.deref-in-Quantified.ensures.value c.deref-in-Quantified-2.ensures c.quantified.ensures.value

pub part-returns-in-Let-clause-value : goal.part-returns-in-Let-clause-value
part-returns-in-Let-clause-value t c =
    let_given (declared_by c.args.setting.now) c.args.scope.now.locals c.args.tops.now c.args.phrase.now c.in_let.result c.in-Let.place c.in-Let.values c.in-Let.inner c.deref-in-Let.result.now c.deref-in-Let-2.result.now c.in-Let.is c.deref-in-Let.ensures.value c.deref-in-Let-2.ensures c.in_let.ensures.value

pub prefixed-plain-settled-requires : goal.prefixed-plain-settled-requires
prefixed-plain-settled-requires t c = (first_of (omega (arith, c.decreases), search (rules, the_lemmas, at_most)), c.requires)

pub chain-plain-requires : goal.chain-plain-requires
chain-plain-requires t c = (first_of (omega (arith, c.decreases), search (rules, the_lemmas, at_most)), c.requires)

pub chain-behind-others-requires : goal.chain-behind-others-requires
chain-behind-others-requires t c = (first_of (omega (arith, c.decreases), search (rules, the_lemmas, at_most)), c.requires)

pub path-argument_asked-requires : goal.path-argument_asked-requires
path-argument_asked-requires t c = (first_of (omega (arith, c.decreases), search (rules, the_lemmas, at_most)), c.requires)

pub path-head_settled-requires : goal.path-head_settled-requires
path-head_settled-requires t c = (first_of (omega (arith, c.decreases), search (rules, the_lemmas, at_most)), c.requires)

pub compared-plain-requires : goal.compared-plain-requires
compared-plain-requires t c = (first_of (omega (arith, c.decreases), search (rules, the_lemmas, at_most)), c.requires)

pub compared-plain-second-requires : goal.compared-plain-second-requires
compared-plain-second-requires t c = (first_of (omega (arith, c.decreases), search (rules, the_lemmas, at_most)), c.requires)

pub implied-formula-requires : goal.implied-formula-requires
implied-formula-requires t c = (first_of (omega (arith, c.decreases), search (rules, the_lemmas, at_most)), c.requires)

pub implied-formula-right-requires : goal.implied-formula-right-requires
implied-formula-right-requires t c = (first_of (omega (arith, c.decreases), search (rules, the_lemmas, at_most)), c.requires)

pub or_else-formula-requires : goal.or_else-formula-requires
or_else-formula-requires t c = (first_of (omega (arith, c.decreases), search (rules, the_lemmas, at_most)), c.requires)

pub or_else-formula-second-requires : goal.or_else-formula-second-requires
or_else-formula-second-requires t c = (first_of (omega (arith, c.decreases), search (rules, the_lemmas, at_most)), c.requires)

pub or_else-formula-other-requires : goal.or_else-formula-other-requires
or_else-formula-other-requires t c = (first_of (omega (arith, c.decreases), search (rules, the_lemmas, at_most)), c.requires)

pub quantified-formula_inside-inner-requires : goal.quantified-formula_inside-inner-requires
quantified-formula_inside-inner-requires t c = (first_of (omega (arith, c.decreases), search (rules, the_lemmas, at_most)), c.requires)

pub in_let-formula_inside-inner-requires : goal.in_let-formula_inside-inner-requires
in_let-formula_inside-inner-requires t c = (first_of (omega (arith, c.decreases), search (rules, the_lemmas, at_most)), c.requires)

pub formula_inside-formula-settled-requires : goal.formula_inside-formula-settled-requires
formula_inside-formula-settled-requires t c = (first_of (omega (arith, c.decreases), search (rules, the_lemmas, at_most)), c.requires)

pub plain-part-requires : goal.plain-part-requires
plain-part-requires t c = (first_of (omega (arith, c.decreases), search (rules, the_lemmas, at_most)), c.requires)

pub formula-plain-settled-requires : goal.formula-plain-settled-requires
formula-plain-settled-requires t c = (first_of (omega (arith, c.decreases), search (rules, the_lemmas, at_most)), c.requires)

pub operand-part-requires : goal.operand-part-requires
operand-part-requires t c = (first_of (omega (arith, c.decreases), search (rules, the_lemmas, at_most)), c.requires)

pub head_settled-part-requires : goal.head_settled-part-requires
head_settled-part-requires t c = (first_of (omega (arith, c.decreases), search (rules, the_lemmas, at_most)), c.requires)

pub head_settled-plain-requires : goal.head_settled-plain-requires
head_settled-plain-requires t c = (first_of (omega (arith, c.decreases), search (rules, the_lemmas, at_most)), c.requires)

pub member-part-requires : goal.member-part-requires
member-part-requires t c = (first_of (omega (arith, c.decreases), search (rules, the_lemmas, at_most)), c.requires)

pub relation-plain-settled-requires : goal.relation-plain-settled-requires
relation-plain-settled-requires t c = (first_of (omega (arith, c.decreases), search (rules, the_lemmas, at_most)), c.requires.tables)

pub variables_entered-domains-made-requires : goal.variables_entered-domains-made-requires
variables_entered-domains-made-requires t c = (first_of (omega (arith, c.decreases), search (rules, the_lemmas, at_most)), (c.requires.tables, c.requires.asked))

pub values_entered-values-made-requires : goal.values_entered-values-made-requires
values_entered-values-made-requires t c = (first_of (omega (arith, c.decreases), search (rules, the_lemmas, at_most)), (c.requires.tables, c.requires.asked))

pub chain-returns-clause-locals : goal.chain-returns-clause-locals
chain-returns-clause-locals t c = c.behind-others.ensures.locals ∙ c.in_ok-first.ensures.locals

pub path-returns-clause-locals : goal.path-returns-clause-locals
path-returns-clause-locals t c = c.after-others.ensures.locals ∙ c.in_ok-head.ensures.locals ∙ c.in_ok-given.ensures.locals

pub path-returns-in_err-head-clause-locals : goal.path-returns-in_err-head-clause-locals
path-returns-in_err-head-clause-locals t c = c.in_err-head.ensures.locals ∙ c.in_ok-given.ensures.locals

pub compared-returns-clause-locals : goal.compared-returns-clause-locals
compared-returns-clause-locals t c = c.plain-second.ensures.locals ∙ c.in_ok-first.ensures.locals

pub implied-returns-clause-locals : goal.implied-returns-clause-locals
implied-returns-clause-locals t c = c.formula-right.ensures.locals ∙ c.in_ok-premise.ensures.locals

pub or_else-returns-clause-locals : goal.or_else-returns-clause-locals
or_else-returns-clause-locals t c = c.formula-other.ensures.locals ∙ c.formula-second.ensures.locals ∙ c.in_ok-premise.ensures.locals

pub behind-returns-clause-locals : goal.behind-returns-clause-locals
behind-returns-clause-locals t c = c.operands.ensures.locals ∙ c.in_ok-of.ensures.locals

pub after-returns-clause-locals : goal.after-returns-clause-locals
after-returns-clause-locals t c = c.all_steps.ensures.locals ∙ c.in_ok-of.ensures.locals
