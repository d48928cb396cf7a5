use Rattle.std.proofs.Common.{◌≡◌, map, take}
use Rattle.cnf_core.specs.Literal.{negation_of}
use Rattle.translation_rules.specs.Locals.{literal_of}
use Rattle.translation_rules.proofs.local_clauses.clauses.absence_in.Given as goal

abbrev pub invariant-loop-cell : goal.invariant-loop-cell
invariant-loop-cell l = l.lits.items ≡ map (λ cell. negation_of (literal_of cell)) (take l.cell-index l.cells)
