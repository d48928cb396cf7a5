use Rattle.std.proofs.Common.{◌≡◌, take}
use Rattle.rel_formula.proofs.problem.relations_copy.Given as goal

abbrev pub invariant-loop-relation : goal.invariant-loop-relation
invariant-loop-relation l = l.copies.items ≡ take l.relation-index l.relations
