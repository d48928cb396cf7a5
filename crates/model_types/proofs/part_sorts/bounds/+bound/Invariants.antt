use Rattle.std.proofs.Common.{◌≡◌, ◌+◌}
use Rattle.model_types.proofs.Parts.Chains.{arrows_from}
use Rattle.model_types.proofs.part_sorts.bounds.+bound.Given as goal

abbrev pub invariant-with_arrows-loop-link : goal.invariant-with_arrows-loop-link
invariant-with_arrows-loop-link l = l.arity + arrows_from l.link-index l.links ≡ l.columns + arrows_from 0 l.links
