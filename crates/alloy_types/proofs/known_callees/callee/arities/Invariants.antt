use Rattle.std.proofs.Common.{◌≡◌, map, take}
use Rattle.alloy_types.specs.Calls.Groups.{arities_of, group_view}
use Rattle.alloy_types.proofs.known_callees.callee.arities.Given as goal

abbrev pub invariant-loop-group : goal.invariant-loop-group
invariant-loop-group l = l.arities.items ≡ arities_of (map group_view (take l.group-index l.groups))
