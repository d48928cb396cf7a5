use Rattle.std.proofs.Common.{map, refl, sym, ◌∙◌}
use Rattle.alloy_syntax.specs.Tree.{trees_of, links_of, steps_of, declarations_of, bindings_of}
use Rattle.alloy_syntax.specs.View.{view, views, link_view, step_view, declaration_view, binding_view}
use Rattle.named_model.specs.Faults.{has_arrow, some_has_arrow, link_has_arrow, step_has_arrow, domain_has_arrow, binding_has_arrow}
use Rattle.sig_resolve.specs.Commands.Arrows.{has_link_arrow, has_step_arrow}
use Rattle.sig_resolve.proofs.Commands.TestsOfParts.{any_more, any_found, any_none, step_before}
use Rattle.sig_resolve.proofs.command_names.arrows.+arrows.Goals as goal

pub is_in_nodes-loop-node-preserved : goal.is_in_nodes-loop-node-preserved
is_in_nodes-loop-node-preserved t c =
    any_more (λ xs. some_has_arrow (trees_of (views xs))) (λ x. has_arrow (view x)) (λ x xs. refl) c.args.nodes.now c.loop-node.node-index c.node-item.result _ c.loop-node-test.true c.node-item.is (sym c.has_arrow.ensures ∙ c.if-has_arrow.false) c.loop-node.invariant

pub is_in_nodes-returns-then-has_arrow : goal.is_in_nodes-returns-then-has_arrow
is_in_nodes-returns-then-has_arrow t c =
    any_found (λ xs. some_has_arrow (trees_of (views xs))) (λ x. has_arrow (view x)) (λ x xs. refl) c.args.nodes.now c.loop-node.node-index c.node-item.result _ c.loop-node-test.true c.node-item.is (sym c.has_arrow.ensures ∙ c.if-has_arrow.true) c.loop-node.invariant

pub is_in_nodes-returns : goal.is_in_nodes-returns
is_in_nodes-returns t c = any_none (λ xs. some_has_arrow (trees_of (views xs))) (λ x. has_arrow (view x)) refl c.args.nodes.now c.loop-node.node-index _ c.loop-node-test.false c.loop-node.invariant

pub is_in_links-loop-link-preserved : goal.is_in_links-loop-link-preserved
is_in_links-loop-link-preserved t c =
    any_more (λ xs. link_has_arrow (links_of (map link_view xs))) (λ x. has_link_arrow (link_view x)) (λ x xs. refl) c.args.links.now c.loop-link.link-index c.link-item.result _ c.loop-link-test.true c.link-item.is (sym c.is_in_link.ensures ∙ c.if-is_in_link.false) c.loop-link.invariant

pub is_in_links-returns-then-is_in_link : goal.is_in_links-returns-then-is_in_link
is_in_links-returns-then-is_in_link t c =
    any_found (λ xs. link_has_arrow (links_of (map link_view xs))) (λ x. has_link_arrow (link_view x)) (λ x xs. refl) c.args.links.now c.loop-link.link-index c.link-item.result _ c.loop-link-test.true c.link-item.is (sym c.is_in_link.ensures ∙ c.if-is_in_link.true) c.loop-link.invariant

pub is_in_links-returns : goal.is_in_links-returns
is_in_links-returns t c = any_none (λ xs. link_has_arrow (links_of (map link_view xs))) (λ x. has_link_arrow (link_view x)) refl c.args.links.now c.loop-link.link-index _ c.loop-link-test.false c.loop-link.invariant

pub is_in_steps-loop-step-preserved : goal.is_in_steps-loop-step-preserved
is_in_steps-loop-step-preserved t c =
    any_more (λ xs. step_has_arrow (steps_of (map step_view xs))) (λ x. has_step_arrow (step_view x)) (λ x xs. step_before (step_view x) (steps_of (map step_view xs))) c.args.steps.now c.loop-step.step-index c.step-item.result _ c.loop-step-test.true c.step-item.is (sym c.is_in_step.ensures ∙ c.if-is_in_step.false) c.loop-step.invariant

pub is_in_steps-returns-then-is_in_step : goal.is_in_steps-returns-then-is_in_step
is_in_steps-returns-then-is_in_step t c =
    any_found (λ xs. step_has_arrow (steps_of (map step_view xs))) (λ x. has_step_arrow (step_view x)) (λ x xs. step_before (step_view x) (steps_of (map step_view xs))) c.args.steps.now c.loop-step.step-index c.step-item.result _ c.loop-step-test.true c.step-item.is (sym c.is_in_step.ensures ∙ c.if-is_in_step.true) c.loop-step.invariant

pub is_in_steps-returns : goal.is_in_steps-returns
is_in_steps-returns t c = any_none (λ xs. step_has_arrow (steps_of (map step_view xs))) (λ x. has_step_arrow (step_view x)) refl c.args.steps.now c.loop-step.step-index _ c.loop-step-test.false c.loop-step.invariant

pub is_in_domains-loop-declaration-preserved : goal.is_in_domains-loop-declaration-preserved
is_in_domains-loop-declaration-preserved t c =
    any_more (λ xs. domain_has_arrow (declarations_of (map declaration_view xs))) (λ x. has_arrow (declaration_view x).domain) (λ x xs. refl) c.args.declarations.now c.loop-declaration.declaration-index c.declaration-item.result _ c.loop-declaration-test.true c.declaration-item.is (sym c.is_in_domain.ensures ∙ c.if-is_in_domain.false) c.loop-declaration.invariant

pub is_in_domains-returns-then-is_in_domain : goal.is_in_domains-returns-then-is_in_domain
is_in_domains-returns-then-is_in_domain t c =
    any_found (λ xs. domain_has_arrow (declarations_of (map declaration_view xs))) (λ x. has_arrow (declaration_view x).domain) (λ x xs. refl) c.args.declarations.now c.loop-declaration.declaration-index c.declaration-item.result _ c.loop-declaration-test.true c.declaration-item.is (sym c.is_in_domain.ensures ∙ c.if-is_in_domain.true) c.loop-declaration.invariant

pub is_in_domains-returns : goal.is_in_domains-returns
is_in_domains-returns t c = any_none (λ xs. domain_has_arrow (declarations_of (map declaration_view xs))) (λ x. has_arrow (declaration_view x).domain) refl c.args.declarations.now c.loop-declaration.declaration-index _ c.loop-declaration-test.false c.loop-declaration.invariant

pub is_in_values-loop-binding-preserved : goal.is_in_values-loop-binding-preserved
is_in_values-loop-binding-preserved t c =
    any_more (λ xs. binding_has_arrow (bindings_of (map binding_view xs))) (λ x. has_arrow (binding_view x).value) (λ x xs. refl) c.args.bindings.now c.loop-binding.binding-index c.binding-item.result _ c.loop-binding-test.true c.binding-item.is (sym c.is_in_value.ensures ∙ c.if-is_in_value.false) c.loop-binding.invariant

pub is_in_values-returns-then-is_in_value : goal.is_in_values-returns-then-is_in_value
is_in_values-returns-then-is_in_value t c =
    any_found (λ xs. binding_has_arrow (bindings_of (map binding_view xs))) (λ x. has_arrow (binding_view x).value) (λ x xs. refl) c.args.bindings.now c.loop-binding.binding-index c.binding-item.result _ c.loop-binding-test.true c.binding-item.is (sym c.is_in_value.ensures ∙ c.if-is_in_value.true) c.loop-binding.invariant

pub is_in_values-returns : goal.is_in_values-returns
is_in_values-returns t c = any_none (λ xs. binding_has_arrow (bindings_of (map binding_view xs))) (λ x. has_arrow (binding_view x).value) refl c.args.bindings.now c.loop-binding.binding-index _ c.loop-binding-test.false c.loop-binding.invariant
