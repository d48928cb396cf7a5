use Rattle.std.proofs.Common.{sym, subst}
use Rattle.circuit_cnf.specs.ClauseForm.{IsClauseForm}
use Rattle.circuit_cnf.proofs.Finishing.{new_within, clause_form}
use Rattle.circuit_cnf.proofs.clauses.clauses_of.Goals as goal

pub formula_of-requires-clause-within : goal.formula_of-requires-clause-within
formula_of-requires-clause-within c =
    let e = c.in_ok-encoding.encoding in
    let h = c.in_ok-encoding.ensures.encoding in
    new_within c.args.circuit.now c.args.output h.0 e.vars e.literals.items e.clauses.items h.2 h.1 c.in_ok-encoding.ensures.count c.requires.output
    _ c.index-literal.result.now c.index-literal.ensures c.place.ensures _ c.in_ok-add_clause.ensures

pub returns-clause-form : goal.returns-clause-form
returns-clause-form c =
    let e = c.in_ok-encoding.encoding in
    let h = c.in_ok-encoding.ensures.encoding in
    subst (IsClauseForm c.args.circuit.now c.args.output) (sym c.in_ok-formula_of.ensures)
    (clause_form c.args.circuit.now c.args.output h.0 e.vars e.literals.items e.clauses.items h.2 h.1 c.in_ok-encoding.ensures.count c.requires.output
    _ c.index-literal.result.now c.index-literal.ensures c.place.ensures _ c.in_ok-add_clause.ensures)
