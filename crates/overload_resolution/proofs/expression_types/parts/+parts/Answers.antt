use Rattle.std.specs.List.{list_any}
use Rattle.overload_resolution.proofs.Expressions.Chaining.{typed_turn, typed_end, linked_turn, linked_end, stepped_turn, stepped_end}
use Rattle.overload_resolution.proofs.Expressions.Calling.{called_body, called_unknown}
use Rattle.overload_resolution.proofs.Expressions.PartTypes.{named_whole, called_whole, constant_whole, bracketed_whole, prefixed_whole, chain_whole, path_whole}
use Rattle.named_model.specs.View.{phrase_view}
use Rattle.std.proofs.Common.{ap, ◌∙◌, sym}
use Rattle.std.proofs.lemmas.Result.{IfOk-weaker}
use Rattle.overload_resolution.proofs.expression_types.parts.+parts.Goals as goal

pub opened_type-returns-in_ok-part_type-in-Some : goal.opened_type-returns-in_ok-part_type-in-Some
opened_type-returns-in_ok-part_type-in-Some t c = λ u ys s h.
    called_body c.args.known.now u c.args.number c.args.depth.calls c.of_body.result.calls (phrase_view c.in-Some.body.now) c.args.arguments.now ys c.in_ok-part_type-in-Some.field-0
    c.of_body.ensures.calls (sym c.in-Some.ensures) c.in_ok-part_type-in-Some.ensures s h

pub opened_type-returns-in-None : goal.opened_type-returns-in-None
opened_type-returns-in-None t c = λ u ys s h test.
    ap (λ a. list_any test a) c.new-in-None.ensures ∙ called_unknown c.args.known.now u c.args.number c.args.depth.calls ys (sym c.in-None.ensures) s test

pub part_types-loop-phrase-preserved : goal.part_types-loop-phrase-preserved
part_types-loop-phrase-preserved t c =
    typed_turn c.args.known.now c.args.depth.calls c.args.locals.now c.args.phrases.now c.loop-phrase.phrase-index c.loop-phrase.types.items c.push.new.self.items c.phrase-item.result c.in_ok-found.found
    c.loop-phrase-test.true c.phrase-item.is c.in_ok-found.ensures c.in_ok-push.ensures.items c.loop-phrase.invariant

pub part_types-returns : goal.part_types-returns
part_types-returns t c =
    typed_end c.args.known.now c.args.depth.calls c.args.locals.now c.args.phrases.now c.loop-phrase.phrase-index c.loop-phrase.types.items c.loop-phrase-test.false c.loop-phrase.invariant

pub with_links-loop-link-preserved : goal.with_links-loop-link-preserved
with_links-loop-link-preserved t c =
    linked_turn c.args.known.now c.args.depth.calls c.args.locals.now c.args.first c.args.links.now c.loop-link.link-index c.loop-link.all c.in_ok-all.all c.link-item.result
    c.loop-link-test.true c.link-item.is c.in_ok-all.ensures c.loop-link.invariant

pub with_links-returns : goal.with_links-returns
with_links-returns t c =
    linked_end c.args.known.now c.args.depth.calls c.args.locals.now c.args.first c.args.links.now c.loop-link.link-index c.loop-link.all c.loop-link-test.false c.loop-link.invariant

pub with_steps-loop-step-preserved : goal.with_steps-loop-step-preserved
with_steps-loop-step-preserved t c =
    stepped_turn c.args.known.now c.args.depth.calls c.args.locals.now c.args.head c.args.steps.now c.loop-step.step-index c.loop-step.all c.in_ok-all.all c.step-item.result
    c.loop-step-test.true c.step-item.is c.in_ok-all.ensures c.loop-step.invariant

pub with_steps-returns : goal.with_steps-returns
with_steps-returns t c =
    stepped_end c.args.known.now c.args.depth.calls c.args.locals.now c.args.head c.args.steps.now c.loop-step.step-index c.loop-step.all c.loop-step-test.false c.loop-step.invariant

pub part_type-returns-in-Refers : goal.part_type-returns-in-Refers
part_type-returns-in-Refers t c =
    IfOk-weaker c.referent_type.result _ _
    (λ found made. named_whole c.args.known.now c.args.depth.calls c.in_ok-depth.depth.calls c.args.locals.now c.args.phrase.now found c.in_ok-depth.ensures.calls
    c.in-Refers.field-0 c.in-Refers.referent c.in-Refers.is made)
    c.referent_type.ensures

pub part_type-returns-in_ok-types-in-Called : goal.part_type-returns-in_ok-types-in-Called
part_type-returns-in_ok-types-in-Called t c =
    IfOk-weaker c.called_type.result _ _
    (λ found made. called_whole c.args.known.now c.args.depth.calls c.in_ok-depth.depth.calls c.args.locals.now c.args.phrase.now found c.in_ok-depth.ensures.calls
    c.in-Called.field-0 c.in-Called.number c.in-Called.arguments c.deref.result.now c.in_ok-types-in-Called.types.items c.deref-in-Called.result.now c.in-Called.is c.deref.ensures.value c.deref-in-Called.ensures.value c.in_ok-types-in-Called.ensures made)
    c.called_type.ensures

pub part_type-returns-in-Constant : goal.part_type-returns-in-Constant
part_type-returns-in-Constant t c =
    IfOk-weaker c.constant_type.result _ _
    (λ found made. constant_whole c.args.known.now c.args.depth.calls c.in_ok-depth.depth.calls c.args.locals.now c.args.phrase.now found c.in_ok-depth.ensures.calls
    c.in-Constant.constant c.in-Constant.field-1 c.deref-in-Constant.result.now c.in-Constant.is c.deref-in-Constant.ensures.value made)
    c.constant_type.ensures

pub part_type-returns-in-Bracketed : goal.part_type-returns-in-Bracketed
part_type-returns-in-Bracketed t c =
    IfOk-weaker c.part_type.result _ _
    (λ found made. bracketed_whole c.args.known.now c.args.depth.calls c.in_ok-depth.depth.calls c.args.locals.now c.args.phrase.now found c.in_ok-depth.ensures.calls
    c.in-Bracketed.field-0 c.in-Bracketed.inner c.deref-in-Bracketed.result.now c.in-Bracketed.is c.deref-in-Bracketed.ensures made)
    c.part_type.ensures

pub part_type-returns-in_ok-a-in-Prefixed : goal.part_type-returns-in_ok-a-in-Prefixed
part_type-returns-in_ok-a-in-Prefixed t c =
    IfOk-weaker c.prefix_type.result _ _
    (λ found made. prefixed_whole c.args.known.now c.args.depth.calls c.in_ok-depth.depth.calls c.args.locals.now c.args.phrase.now found c.in_ok-depth.ensures.calls
    c.in-Prefixed.prefix c.in-Prefixed.field-1 c.in-Prefixed.inner c.deref-in-Prefixed.result.now c.in_ok-a-in-Prefixed.a c.deref-in-Prefixed-2.result.now c.in-Prefixed.is c.deref-in-Prefixed.ensures c.deref-in-Prefixed-2.ensures.value c.in_ok-a-in-Prefixed.ensures made)
    c.prefix_type.ensures

pub part_type-returns-in_ok-a-in-Chain : goal.part_type-returns-in_ok-a-in-Chain
part_type-returns-in_ok-a-in-Chain t c =
    IfOk-weaker c.with_links.result _ _
    (λ found made. chain_whole c.args.known.now c.args.depth.calls c.in_ok-depth.depth.calls c.args.locals.now c.args.phrase.now found c.in_ok-depth.ensures.calls
    c.in-Chain.first c.deref-in-Chain.result.now c.in-Chain.links c.deref-in-Chain-2.result.now c.in_ok-a-in-Chain.a c.in-Chain.is c.deref-in-Chain.ensures c.deref-in-Chain-2.ensures.value c.in_ok-a-in-Chain.ensures made)
    c.with_links.ensures

pub part_type-returns-in_ok-a-in-Path : goal.part_type-returns-in_ok-a-in-Path
part_type-returns-in_ok-a-in-Path t c =
    IfOk-weaker c.with_steps.result _ _
    (λ found made. path_whole c.args.known.now c.args.depth.calls c.in_ok-depth.depth.calls c.args.locals.now c.args.phrase.now found c.in_ok-depth.ensures.calls
    c.in-Path.head c.deref-in-Path.result.now c.in-Path.steps c.deref-in-Path-2.result.now c.in_ok-a-in-Path.a c.in-Path.is c.deref-in-Path.ensures c.deref-in-Path-2.ensures.value c.in_ok-a-in-Path.ensures made)
    c.with_steps.ensures
