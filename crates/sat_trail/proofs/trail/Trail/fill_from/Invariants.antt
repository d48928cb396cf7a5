use Rattle.std.proofs.Common.{◌≡◌, ◌++◌, take}
use Rattle.sat_trail.proofs.trail.Trail.fill_from.Given as goal

abbrev pub invariant-loop-i : goal.invariant-loop-i
invariant-loop-i l = l.self ≡ record l.fn.self { clauses = l.fn.self.clauses ++ take l.i l.f.clauses }
