use Rattle.std.proofs.Common.{◌≡◌, ◌++◌, map, take}
use Rattle.samples.proofs.Exhaustive.SubsetLemmas.{with}
use Rattle.samples.proofs.exhaustive_search.subsets.add_with.Given as goal

abbrev pub invariant-loop-place : goal.invariant-loop-place
invariant-loop-place l = l.sets.items ≡ l.fn.sets.items ++ map (with l.fn.number) (take l.place l.fn.sets.items)
