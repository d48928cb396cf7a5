use Rattle.std.proofs.Common.{◌≡◌, ◌<◌, ◌≤◌, List, All, AllPairs, length, sym, ◌∙◌, ap, subst, arith}
use Rattle.cnf_core.specs.declared.literal.Lit.{Lit}
use Rattle.cnf_core.specs.Formula.{Formula}
use Rattle.cnf_core.specs.Literal.{HasVarsUpTo, IsVariable}
use Rattle.rel_formula.specs.Bounds.{cells_of}
use Rattle.translation_rules.specs.Translation.{var_of}
use Rattle.translation_rules.specs.Locals.{absence_in, locals_of}
use Rattle.translation_rules.proofs.Locals.Cells.{have_variables}
use Rattle.session_state.proofs.Rounds.Sizes.{few_clauses}
use Rattle.session_state.proofs.Rounds.GoingOn.{absence_within, all_local, blocked_or_same, kept_over}
use Rattle.session_state.proofs.search_rounds.going.is_blocked_too.Goals as goal

pub absence_in-requires-clause-variables : goal.absence_in-requires-clause-variables
absence_in-requires-clause-variables c =
    let t = c.args.translation.now in
    let cells : length (cells_of t.problem) ≤ 4096 = subst (λ p. length (cells_of p) ≤ 4096) c.problem-problem.ensures.value c.relations.ensures.well.few_cells in
    subst (All (λ cell. IsVariable (var_of cell))) (sym c.numbers-2.ensures.value) (have_variables t.problem c.args.scenario.now cells c.requires.scenario)

pub absence_in-requires-clause-rising : goal.absence_in-requires-clause-rising
absence_in-requires-clause-rising c = subst (AllPairs (λ m n. m < n)) (sym c.numbers-2.ensures.value) c.numbers-2.ensures.rising

pub overflow_cast-place : goal.overflow_cast-place
overflow_cast-place c =
    let t = c.args.translation.now in
    let floor = c.args.floor.now in
    let blocked = c.args.blocked.now in
    let local : List (List Lit) = c.args.local.now in
    let few = few_clauses t c.problem-problem.ensures.well c.problem-problem.result.now c.problem-problem.ensures.value c.relations.ensures.well.few_cells floor c.numbers.ensures.rising c.requires.floor blocked local c.requires.local in
    let room = c.requires.few in
    let asked = ap length c.as_slice.ensures in
    omega arith

pub block-requires-clause-kept : goal.block-requires-clause-kept
block-requires-clause-kept c =
    let t = c.args.translation.now in
    kept_over t.cnf c.cnf-cnf.result.now (locals_of t c.args.floor.now c.args.blocked.now) c.as_slice-2.result.now c.args.pool.now c.args.search.now (sym c.cnf-cnf.ensures) (sym (c.as_slice-2.ensures ∙ c.requires.local)) c.requires.going

pub block-requires-clause-few : goal.block-requires-clause-few
block-requires-clause-few c =
    let t = c.args.translation.now in
    let floor = c.args.floor.now in
    let blocked = c.args.blocked.now in
    let local : List (List Lit) = c.args.local.now in
    let few = few_clauses t c.problem-problem.ensures.well c.problem-problem.result.now c.problem-problem.ensures.value c.relations.ensures.well.few_cells floor c.numbers.ensures.rising c.requires.floor blocked local c.requires.local in
    let cells : length (cells_of t.problem) ≤ 4096 = subst (λ p. length (cells_of p) ≤ 4096) c.problem-problem.ensures.value c.relations.ensures.well.few_cells in
    let room = c.requires.few in
    let terms = c.problem-problem.ensures.well.translatable.few_terms in
    let clauses = (c.problem-problem.ensures.well.small terms.0 terms.1).clauses in
    let most = terms.2 in
    let given : length c.cnf-cnf.result.now.clauses ≡ length t.cnf.clauses = ap (λ (f : Formula). length f.clauses) c.cnf-cnf.ensures in
    let asked : length c.as_slice-2.result.now ≡ length local = ap length c.as_slice-2.ensures in
    let pool_few = c.requires.import.few in
    omega arith

pub block-requires-clause-place : goal.block-requires-clause-place
block-requires-clause-place c = let one = ap length c.as_slice.ensures in let two = ap length c.as_slice-2.ensures in omega arith

pub block-requires-clause-vars : goal.block-requires-clause-vars
block-requires-clause-vars c =
    let t = c.args.translation.now in
    let clause_is : c.in_ok-clause.clause ≡ absence_in c.args.scenario.now = c.in_ok-clause.ensures ∙ ap absence_in c.numbers-2.ensures.value in
    subst (λ (f : Formula). HasVarsUpTo f.vars c.in_ok-clause.clause) (sym c.cnf-cnf.ensures) (subst (HasVarsUpTo t.cnf.vars) (sym clause_is) (absence_within t c.problem-problem.ensures.well c.args.scenario.now c.requires.scenario))

pub returns-clause-local : goal.returns-clause-local
returns-clause-local c =
    let t = c.args.translation.now in
    let pool = c.args.pool.now in
    let floor = c.args.floor.now in
    let blocked = c.args.blocked.now in
    let copy = c.args.scenario.now in
    let local : List (List Lit) = c.args.local.now in
    let clause : List Lit = c.in_ok-clause.clause in
    let clause_is : clause ≡ absence_in copy = c.in_ok-clause.ensures ∙ ap absence_in c.numbers-2.ensures.value in
    c.in_ok-push.ensures ∙ all_local t pool floor blocked copy c.cnf-cnf.result.now c.cnf-cnf.ensures local c.requires.local clause clause_is

pub returns-clause-blocked : goal.returns-clause-blocked
returns-clause-blocked c =
    let t = c.args.translation.now in
    let pool = c.args.pool.now in
    let floor = c.args.floor.now in
    let blocked = c.args.blocked.now in
    let copy = c.args.scenario.now in
    let local : List (List Lit) = c.args.local.now in
    let clause : List Lit = c.in_ok-clause.clause in
    let clause_is : clause ≡ absence_in copy = c.in_ok-clause.ensures ∙ ap absence_in c.numbers-2.ensures.value in
    blocked_or_same t pool floor blocked copy c.cnf-cnf.result.now c.cnf-cnf.ensures local c.requires.local clause clause_is c.args.search.now c.block.new.self (length c.as_slice.result.now) (ap length c.as_slice.ensures) c.in_ok-is_blocked.is_blocked
    (λ first rest e at. c.in_ok-is_blocked.ensures.blocked first rest (c.as_slice-2.ensures ∙ e) at)
