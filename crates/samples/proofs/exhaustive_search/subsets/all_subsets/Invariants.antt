use Rattle.std.proofs.Common.{◌≡◌}
use Rattle.samples.proofs.Exhaustive.SubsetLemmas.{subsets}
use Rattle.samples.proofs.exhaustive_search.subsets.all_subsets.Given as goal

abbrev pub invariant-loop-number : goal.invariant-loop-number
invariant-loop-number l = l.sets.items ≡ subsets l.number
