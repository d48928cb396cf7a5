use Rattle.std.proofs.Common.{◌≡◌, ◌++◌, take}
use Rattle.refutation_check.specs.Numbering.{variables_of}
use Rattle.refutation_check.proofs.sparse.add_variables.Given as goal

abbrev pub invariant-loop-lit : goal.invariant-loop-lit
invariant-loop-lit l = l.found.items ≡ l.fn.found.items ++ variables_of (take l.lit-index l.lits)
