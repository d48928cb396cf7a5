use Rattle.std.proofs.Common.{◌≡◌, map, drop}
use Rattle.alloy_syntax.specs.Tree.{declarations_of}
use Rattle.alloy_syntax.specs.View.{declaration_view}
use Rattle.named_model.specs.Names.{behind_declarations}
use Rattle.sig_resolve.proofs.Bodies.Variables.{ParametersLeft}
use Rattle.sig_resolve.proofs.body_names.headers.parameters.Given as goal

abbrev pub invariant-loop-declaration : goal.invariant-loop-declaration
invariant-loop-declaration l = record {
  same : l.names.globals ≡ l.fn.names.globals;
  behind : behind_declarations l.names.locals (declarations_of (map declaration_view (drop l.declaration-index l.declarations))) ≡ behind_declarations l.fn.names.locals (declarations_of (map declaration_view l.declarations));
  left : ParametersLeft l.fn.names.globals l.fn.names.locals l.declarations l.names.locals (drop l.declaration-index l.declarations) l.all.items;
}
