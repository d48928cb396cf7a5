use Rattle.std.proofs.Common.{◌≡◌, ◌≤◌, List, IfOk, length, sym, ap, subst, arith}
use Rattle.cnf_core.specs.declared.literal.Lit.{Lit}
use Rattle.cnf_core.specs.Formula.{Formula}
use Rattle.rel_formula.specs.Bounds.{cells_of}
use Rattle.sat_trail.specs.Trailed.{IsBase}
use Rattle.sat_core.specs.Kept.{IsKept}
use Rattle.session_state.proofs.Rounds.Sizes.{few_clauses}
use Rattle.session_state.proofs.search_rounds.going.anew.Goals as goal

pub over-requires-clause-base : goal.over-requires-clause-base
over-requires-clause-base c = subst (λ (f : Formula). IsBase f c.args.base.now) (sym c.cnf.ensures) c.requires.base

pub over-requires-clause-few : goal.over-requires-clause-few
over-requires-clause-few c =
    let t = c.args.translation.now in
    let local : List (List Lit) = c.args.local.now in
    let has = c.requires.local in
    let few = few_clauses t c.problem-problem.ensures.well c.problem-problem.result.now c.problem-problem.ensures.value c.relations.ensures.well.few_cells c.args.floor.now c.numbers.ensures.rising c.requires.floor has.0 local has.1 in
    let room = has.2 in
    let cells : length (cells_of t.problem) ≤ 4096 = subst (λ p. length (cells_of p) ≤ 4096) c.problem-problem.ensures.value c.relations.ensures.well.few_cells in
    let terms = c.problem-problem.ensures.well.translatable.few_terms in
    let clauses = (c.problem-problem.ensures.well.small terms.0 terms.1).clauses in
    let most = terms.2 in
    let given : length c.cnf.result.now.clauses ≡ length t.cnf.clauses = ap (λ (f : Formula). length f.clauses) c.cnf.ensures in
    let pool_few = c.requires.import.few in
    omega arith

pub returns-clause-kept : goal.returns-clause-kept
returns-clause-kept c =
    let local : List (List Lit) = c.args.local.now in
    subst (λ (f : Formula). IfOk c.over.result (IsKept f local c.args.pool.now)) c.cnf.ensures c.over.ensures.kept
