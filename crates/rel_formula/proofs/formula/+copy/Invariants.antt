use Rattle.std.proofs.Common.{◌≡◌, map, take}
use Rattle.rel_formula.specs.View.{formula_tree}
use Rattle.rel_formula.proofs.formula.+copy.Given as goal

abbrev pub invariant-copies-loop-part : goal.invariant-copies-loop-part
invariant-copies-loop-part l = map formula_tree l.copies.items ≡ map formula_tree (take l.part-index l.parts)
