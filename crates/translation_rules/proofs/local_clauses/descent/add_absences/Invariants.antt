use Rattle.std.proofs.Common.{◌≡◌, ◌++◌, ◌∷◌, [], map}
use Rattle.std.specs.List.{range_with_len}
use Rattle.cnf_core.specs.Literal.{negation_of}
use Rattle.translation_rules.specs.Locals.{literal_of}
use Rattle.translation_rules.specs.Descents.{outside}
use Rattle.translation_rules.proofs.local_clauses.descent.add_absences.Given as goal

abbrev pub invariant-loop-cell : goal.invariant-loop-cell
invariant-loop-cell l = l.clauses.items ≡ l.fn.clauses.items ++ map (λ cell. negation_of (literal_of cell) ∷ []) (outside l.scenario (range_with_len 0 l.cell))
