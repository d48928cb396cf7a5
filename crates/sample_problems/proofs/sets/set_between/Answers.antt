use Rattle.std.proofs.Common.{◌≡◌, ◌≤◌, ◌∷◌, [], ℕ, List, true, sym, subst, arith, length}
use Rattle.rel_formula.specs.declared.problem.Relation.{Relation}
use Rattle.rel_formula.specs.View.{formula_tree}
use Rattle.rel_formula.specs.Bounds.{IsProblem}
use Rattle.rel_formula.proofs.OneSetOfAtoms.{single_problem}
use Rattle.sample_problems.proofs.sets.set_between.Goals as goal

pub of-requires-2 : goal.of-requires-2
of-requires-2 c =
    let relation : Relation = record { name = c.in_ok-name.name; lower = c.in_ok-lower.lower; upper = c.in_ok-upper.upper } in
    let within : c.is_subset.result ≡ true = c.if-not-is_subset.false in
    let few : length c.in_ok-upper.upper.rows ≤ 4096 = omega arith in
    let is = single_problem relation (formula_tree c.args.formula) c.rows.ensures.well c.rows-2.ensures.well c.in_ok-lower.ensures.arity c.in_ok-upper.ensures.arity (c.is_subset.ensures.0 within) few c.in_ok-upper.ensures.first c.requires in
    subst (λ (rs : List Relation). IsProblem (record { relations = rs; tops = c.in_ok-tops.tops.items; formula = formula_tree c.args.formula })) (sym c.in_ok-relations.ensures.items)
    (subst (λ (ts : List ℕ). IsProblem (record { relations = relation ∷ []; tops = ts; formula = formula_tree c.args.formula })) (sym c.in_ok-tops.ensures.items) is)
