use Rattle.std.proofs.Common.{◌≡◌, map, drop}
use Rattle.alloy_syntax.specs.Tree.{declarations_of, bindings_of}
use Rattle.alloy_syntax.specs.View.{declaration_view, binding_view}
use Rattle.named_model.specs.Names.{behind_declarations, behind_bindings}
use Rattle.sig_resolve.proofs.Bodies.Nodes.{NodesLeft, LinksLeft, StepsLeft}
use Rattle.sig_resolve.proofs.Bodies.Variables.{DomainsLeft, ValuesLeft}
use Rattle.sig_resolve.proofs.body_names.parts.+parts.Given as goal

abbrev pub invariant-formulas-loop-node : goal.invariant-formulas-loop-node
invariant-formulas-loop-node l = record {
  same : l.names ≡ l.fn.names;
  left : NodesLeft l.fn.names.globals l.fn.names.locals l.nodes (drop l.node-index l.nodes) l.all.items;
}

abbrev pub invariant-links-loop-link : goal.invariant-links-loop-link
invariant-links-loop-link l = record {
  same : l.names ≡ l.fn.names;
  left : LinksLeft l.fn.names.globals l.fn.names.locals l.links (drop l.link-index l.links) l.all.items;
}

abbrev pub invariant-steps_from-loop-place : goal.invariant-steps_from-loop-place
invariant-steps_from-loop-place l = record {
  same : l.names ≡ l.fn.names;
  left : StepsLeft l.fn.names.globals l.fn.names.locals (drop l.from l.steps) (drop l.place l.steps) l.all.items;
}

abbrev pub invariant-domains-loop-declaration : goal.invariant-domains-loop-declaration
invariant-domains-loop-declaration l = record {
  same : l.names.globals ≡ l.fn.names.globals;
  behind : behind_declarations l.names.locals (declarations_of (map declaration_view (drop l.declaration-index l.declarations))) ≡ behind_declarations l.fn.names.locals (declarations_of (map declaration_view l.declarations));
  left : DomainsLeft l.fn.names.globals l.fn.names.locals l.declarations l.names.locals (drop l.declaration-index l.declarations) l.all.items;
}

abbrev pub invariant-values-loop-binding : goal.invariant-values-loop-binding
invariant-values-loop-binding l = record {
  same : l.names.globals ≡ l.fn.names.globals;
  behind : behind_bindings l.names.locals (bindings_of (map binding_view (drop l.binding-index l.bindings))) ≡ behind_bindings l.fn.names.locals (bindings_of (map binding_view l.bindings));
  left : ValuesLeft l.fn.names.globals l.fn.names.locals l.bindings l.names.locals (drop l.binding-index l.bindings) l.all.items;
}
