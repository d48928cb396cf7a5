use Rattle.std.proofs.Common.{◌≡◌, ◌≤◌, ℕ, List, ◌++◌, map, All, length, sym, ◌∙◌, ap, subst}
use Rattle.cnf_core.specs.declared.literal.Lit.{Lit}
use Rattle.cnf_core.specs.Literal.{IsVariable}
use Rattle.rel_formula.specs.Bounds.{cells_of}
use Rattle.rel_formula.specs.Instance.{AreCells}
use Rattle.translation_rules.specs.Free.{is_free_of}
use Rattle.translation_rules.specs.Translation.{var_of, clauses_of_swaps}
use Rattle.translation_rules.specs.Locals.{units_of, absence_in}
use Rattle.translation_rules.proofs.Locals.Cells.{have_variables}
use Rattle.session_state.proofs.search_rounds.locals.locals_of.Goals as goal

pub units_of-requires : goal.units_of-requires
units_of-requires c =
    let t = c.args.translation.now in
    let cells : length (cells_of t.problem) ≤ 4096 = subst (λ p. length (cells_of p) ≤ 4096) c.problem-problem.ensures.value c.relations.ensures.well.few_cells in
    subst (All (λ cell. IsVariable (var_of cell))) (sym c.numbers-2.ensures.value) (have_variables t.problem c.args.floor.now cells c.requires.floor)

pub returns : goal.returns
returns c =
    let t = c.args.translation.now in
    let floor = c.args.floor.now in
    let swaps = clauses_of_swaps (is_free_of t.problem floor) t.swaps in
    let one : c.in_ok-clauses.clauses.items ≡ swaps = c.in_ok-clauses.ensures ∙ ap (λ (f : List ℕ). clauses_of_swaps (is_free_of t.problem f) t.swaps) c.numbers.ensures.value in
    let two : c.in_ok-units.units.items ≡ units_of floor = c.in_ok-units.ensures ∙ ap units_of c.numbers-2.ensures.value in
    c.in_ok-add_absences.ensures ∙ ap (λ (cs : List (List Lit)). cs ++ map absence_in c.args.blocked.now)
    (c.in_ok-append.ensures.items ∙ ap (λ (cs : List (List Lit)). cs ++ c.in_ok-units.units.items) one ∙ ap (λ (cs : List (List Lit)). swaps ++ cs) two)
