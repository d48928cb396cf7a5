use Rattle.std.proofs.Common.{◌≡◌, ◌<◌, ◌≤◌, ℕ, List, ◌++◌, ◌∷◌, [], All, AllPairs, length, get_or, sym, ◌∙◌, ap, subst, arith}
use Rattle.cnf_core.specs.Literal.{IsVariable}
use Rattle.rel_formula.specs.Bounds.{cells_of}
use Rattle.rel_formula.specs.Instance.{AreCells}
use Rattle.translation_rules.specs.Translation.{var_of}
use Rattle.translation_rules.specs.Locals.{absence_in}
use Rattle.translation_rules.proofs.Locals.Cells.{have_variables}
use Rattle.session_state.proofs.Rounds.AddedElements.{added_of}
use Rattle.session_state.proofs.search_rounds.locals.add_absences.Goals as goal

pub absence_in-requires-clause-variables : goal.absence_in-requires-clause-variables
absence_in-requires-clause-variables c =
    let p = c.args.problem.now in
    let xs = c.args.blocked.now in
    let i = c.loop-scenario.scenario-index in
    let s : List ℕ = c.scenario-item.result in
    let cells : AreCells p s = subst (AreCells p) (sym c.scenario-item.is) (c.requires i s c.loop-scenario-test.true) in
    subst (All (λ cell. IsVariable (var_of cell))) (sym c.numbers.ensures.value) (have_variables p s c.relations.ensures.well.few_cells cells)

pub absence_in-requires-clause-rising : goal.absence_in-requires-clause-rising
absence_in-requires-clause-rising c = subst (AllPairs (λ m n. m < n)) (sym c.numbers.ensures.value) c.numbers.ensures.rising

pub loop-scenario-preserved : goal.loop-scenario-preserved
loop-scenario-preserved c =
    let xs = c.args.blocked.now in
    let i = c.loop-scenario.scenario-index in
    let s : List ℕ = c.scenario-item.result in
    c.in_ok-push.ensures.items ∙ ap (λ y. c.loop-scenario.clauses.items ++ y ∷ []) (c.in_ok-absence_in.ensures ∙ ap absence_in c.numbers.ensures.value)
    ∙ added_of xs i s c.loop-scenario-test.true c.scenario-item.is absence_in c.args.clauses.now.items c.loop-scenario.clauses.items c.loop-scenario.invariant
