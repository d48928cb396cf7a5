use Rattle.std.proofs.Common.{◌≡◌, ◌++◌, ◌∷◌, [], map, take}
use Rattle.translation_rules.specs.Locals.{literal_of}
use Rattle.translation_rules.proofs.local_clauses.clauses.add_units.Given as goal

abbrev pub invariant-loop-cell : goal.invariant-loop-cell
invariant-loop-cell l = l.clauses.items ≡ l.fn.clauses.items ++ map (λ cell. literal_of cell ∷ []) (take l.cell-index l.cells)
