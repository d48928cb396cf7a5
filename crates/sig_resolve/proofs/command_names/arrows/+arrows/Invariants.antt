use Rattle.std.proofs.Common.{◌≡◌, map, drop}
use Rattle.alloy_syntax.specs.Tree.{trees_of, links_of, steps_of, declarations_of, bindings_of}
use Rattle.alloy_syntax.specs.View.{views, link_view, step_view, declaration_view, binding_view}
use Rattle.named_model.specs.Faults.{some_has_arrow, link_has_arrow, step_has_arrow, domain_has_arrow, binding_has_arrow}
use Rattle.sig_resolve.proofs.command_names.arrows.+arrows.Given as goal

abbrev pub invariant-is_in_nodes-loop-node : goal.invariant-is_in_nodes-loop-node
invariant-is_in_nodes-loop-node l = some_has_arrow (trees_of (views (drop l.node-index l.nodes))) ≡ some_has_arrow (trees_of (views l.nodes))

abbrev pub invariant-is_in_links-loop-link : goal.invariant-is_in_links-loop-link
invariant-is_in_links-loop-link l = link_has_arrow (links_of (map link_view (drop l.link-index l.links))) ≡ link_has_arrow (links_of (map link_view l.links))

abbrev pub invariant-is_in_steps-loop-step : goal.invariant-is_in_steps-loop-step
invariant-is_in_steps-loop-step l = step_has_arrow (steps_of (map step_view (drop l.step-index l.steps))) ≡ step_has_arrow (steps_of (map step_view l.steps))

abbrev pub invariant-is_in_domains-loop-declaration : goal.invariant-is_in_domains-loop-declaration
invariant-is_in_domains-loop-declaration l = domain_has_arrow (declarations_of (map declaration_view (drop l.declaration-index l.declarations))) ≡ domain_has_arrow (declarations_of (map declaration_view l.declarations))

abbrev pub invariant-is_in_values-loop-binding : goal.invariant-is_in_values-loop-binding
invariant-is_in_values-loop-binding l = binding_has_arrow (bindings_of (map binding_view (drop l.binding-index l.bindings))) ≡ binding_has_arrow (bindings_of (map binding_view l.bindings))
