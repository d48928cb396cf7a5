use Rattle.std.proofs.Common.{◌≡◌, map, drop}
use Rattle.named_model.specs.View.{domain_view}
use Rattle.alloy_types.specs.Calls.Groups.{group_view}
use Rattle.alloy_types.specs.Meanings.{groups_unary}
use Rattle.alloy_types.proofs.commands.groups_unary.Given as goal

abbrev pub invariant-loop-number : goal.invariant-loop-number
invariant-loop-number l = groups_unary (map group_view l.groups) (map domain_view l.parameters) ≡ groups_unary (map group_view (drop l.number l.groups)) (map domain_view (drop l.number l.parameters))
