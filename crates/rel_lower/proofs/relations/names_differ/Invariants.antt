use Rattle.std.proofs.Common.{◌≢◌, AllPairs, take}
use Rattle.rel_lower.proofs.relations.names_differ.Given as goal

abbrev pub invariant-loop-later : goal.invariant-loop-later
invariant-loop-later l = AllPairs (λ r s. r.name ≢ s.name) (take l.later l.relations)
