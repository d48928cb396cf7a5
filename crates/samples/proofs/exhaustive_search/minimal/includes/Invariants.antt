use Rattle.std.proofs.Common.{All, take, Contains}
use Rattle.samples.proofs.exhaustive_search.minimal.includes.Given as goal

abbrev pub invariant-loop-number : goal.invariant-loop-number
invariant-loop-number l = All (Contains l.scenario) (take l.number-index l.number-items)
