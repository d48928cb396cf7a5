use Rattle.std.proofs.Common.{◌≡◌, take}
use Rattle.translation_rules.specs.Descents.{outside}
use Rattle.translation_rules.proofs.local_clauses.descent.outside.Given as goal

abbrev pub invariant-loop-cell : goal.invariant-loop-cell
invariant-loop-cell l = l.others.items ≡ outside l.scenario (take l.cell-index l.cells)
