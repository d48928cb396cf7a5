use Rattle.std.proofs.Common.{◌≡◌, ◌≤◌, ℕ, List, map, take, length, subst, sym, ap, ◌∙◌, arith}
use Rattle.std.proofs.lemmas.List.{take_all}
use Rattle.cnf_core.specs.Literal.{IsClause, negation_of}
use Rattle.translation_rules.specs.Locals.{literal_of}
use Rattle.translation_rules.proofs.Locals.Cells.{absence_clause}
use Rattle.translation_rules.proofs.local_clauses.clauses.absence_in.Goals as goal

pub clause_of-requires : goal.clause_of-requires
clause_of-requires c =
    let cells = c.args.cells.now in
    let all : take c.loop-cell.cell-index cells ≡ cells = take_all c.loop-cell.cell-index cells (let f = c.loop-cell-test.false in omega arith) in
    let is = c.loop-cell.invariant ∙ ap (map (λ cell. negation_of (literal_of cell))) all in
    subst IsClause (sym (c.as_slice.ensures.value ∙ is)) (absence_clause cells c.requires.variables c.requires.rising)
