use Rattle.std.proofs.Common.{◌≡◌, ◌<◌, ◌≤◌, ℕ, All, AllPairs, length, subst, sym, ap, ◌∙◌, arith}
use Rattle.cnf_core.specs.Literal.{IsVariable}
use Rattle.rel_formula.specs.Bounds.{cells_of}
use Rattle.translation_rules.specs.Translation.{var_of}
use Rattle.translation_rules.specs.Descents.{outside}
use Rattle.translation_rules.proofs.Locals.Cells.{have_variables, all_outside, outside_rises}
use Rattle.translation_rules.proofs.local_clauses.descent.descent_locals.Goals as goal

pub absence_in-requires-clause-variables : goal.absence_in-requires-clause-variables
absence_in-requires-clause-variables c =
    let p = c.args.problem.now in
    let few : length (cells_of p) ≤ 4096 = let e = c.cells.ensures.value in let k = c.cells.ensures.few in omega arith in
    let all = all_outside (λ cell. IsVariable (var_of cell)) c.args.floor.now c.args.scenario.now (have_variables p c.args.scenario.now few c.requires.scenario) in
    subst (All (λ cell. IsVariable (var_of cell))) (sym (c.as_slice.ensures.value ∙ c.in_ok-others.ensures ∙ ap (outside c.args.floor.now) c.numbers-2.ensures.value)) all

pub absence_in-requires-clause-rising : goal.absence_in-requires-clause-rising
absence_in-requires-clause-rising c =
    subst (AllPairs (λ m n. m < n)) (sym (c.as_slice.ensures.value ∙ c.in_ok-others.ensures ∙ ap (outside c.args.floor.now) c.numbers-2.ensures.value))
    (outside_rises c.args.floor.now c.args.scenario.now c.numbers-2.ensures.rising)
