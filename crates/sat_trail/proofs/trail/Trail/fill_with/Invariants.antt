use Rattle.std.proofs.Common.{◌≡◌, ◌++◌, take}
use Rattle.sat_trail.proofs.trail.Trail.fill_with.Given as goal

abbrev pub invariant-loop-clause : goal.invariant-loop-clause
invariant-loop-clause l = l.self ≡ record l.fn.self { clauses = l.fn.self.clauses ++ take l.clause-index l.clauses }
