use Rattle.std.proofs.Common.{◌≡◌, map, drop}
use Rattle.std.specs.List.{list_any}
use Rattle.alloy_syntax.specs.View.{declaration_view}
use Rattle.named_model.specs.Faults.{is_higher_domain}
use Rattle.sig_resolve.proofs.command_names.predicates.has_higher.Given as goal

abbrev pub invariant-loop-declaration : goal.invariant-loop-declaration
invariant-loop-declaration l = list_any is_higher_domain (map declaration_view (drop l.declaration-index l.declarations)) ≡ list_any is_higher_domain (map declaration_view l.declarations)
