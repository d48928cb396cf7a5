use Rattle.std.proofs.Common.{◌≡◌, ◌++◌, take}
use Rattle.std.specs.List.{flat_map}
use Rattle.refutation_check.specs.Numbering.{variables_of}
use Rattle.refutation_check.proofs.sparse.add_clauses.Given as goal

abbrev pub invariant-loop-clause : goal.invariant-loop-clause
invariant-loop-clause l = l.found.items ≡ l.fn.found.items ++ flat_map variables_of (take l.clause-index l.clauses)
