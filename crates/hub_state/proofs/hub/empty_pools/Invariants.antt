use Rattle.std.proofs.Common.{◌≡◌, [], replicate}
use Rattle.hub_state.proofs.hub.empty_pools.Given as goal

abbrev pub invariant-loop-key : goal.invariant-loop-key
invariant-loop-key l = l.pools.items ≡ replicate l.key []
