use Rattle.std.proofs.Common.{◌≡◌, ◌≢◌, ◌+◌, ◌≤◌, ◌∷◌, [], ℕ, List, refl, sym, ◌∙◌, ap, subst, arith, length}
use Rattle.rel_formula.specs.declared.problem.Relation.{Relation}
use Rattle.rel_formula.specs.Bounds.{IsProblem}
use Rattle.rel_formula.specs.Renaming.{IsSymmetric}
use Rattle.rel_formula.specs.View.{formula_tree}
use Rattle.bench.proofs.Powered.{power_problem, powers_symmetric}
use Rattle.bench.proofs.powers.problem.Goals as goal

pub of-requires-3 : goal.of-requires-3
of-requires-3 c =
    let atoms = c.args.atoms in
    let set : Relation = record { name = c.in_ok-of.field-0; lower = c.in_ok-copy.field-0; upper = atoms } in
    let relation : Relation = record { name = c.in_ok-of-2.field-0; lower = c.new-none.result; upper = c.args.tuples } in
    let f = formula_tree c.args.formula in
    let same : relation.lower.arity ≡ relation.upper.arity = c.new-none.ensures.arity ∙ c.arity.ensures.value in
    let names : set.name ≢ relation.name = λ e. let l = ap length (sym c.in_ok-of.ensures ∙ e ∙ c.in_ok-of-2.ensures) in omega arith in
    let few : length atoms.rows + length relation.upper.rows ≤ 4096 = omega arith in
    let is = power_problem atoms set relation f c.rows.ensures.well c.requires.atoms c.in_ok-copy.ensures refl c.rows-3.ensures.well c.rows-2.ensures.well
    c.new-none.ensures.rows same c.requires.tuples names few c.requires.formula in
    subst (λ (rs : List Relation). IsProblem (record { relations = rs; tops = c.in_ok-tops.tops.items; formula = f })) (sym c.in_ok-relations.ensures.items)
    (subst (λ (ts : List ℕ). IsProblem (record { relations = set ∷ relation ∷ []; tops = ts; formula = f })) (sym c.in_ok-tops.ensures.items) is)

pub returns-clause-symmetric : goal.returns-clause-symmetric
returns-clause-symmetric c =
    let atoms = c.args.atoms in
    let set : Relation = record { name = c.in_ok-of.field-0; lower = c.in_ok-copy.field-0; upper = atoms } in
    let relation : Relation = record { name = c.in_ok-of-2.field-0; lower = c.new-none.result; upper = c.args.tuples } in
    let f = formula_tree c.args.formula in
    let is = powers_symmetric atoms set relation f c.rows.ensures.well c.requires.atoms.arity c.in_ok-copy.ensures refl c.new-none.ensures.rows c.requires.tuples in
    subst IsSymmetric (sym c.in_ok-made.ensures)
    (subst (λ (rs : List Relation). IsSymmetric (record { relations = rs; tops = c.in_ok-tops.tops.items; formula = f })) (sym c.in_ok-relations.ensures.items)
    (subst (λ (ts : List ℕ). IsSymmetric (record { relations = set ∷ relation ∷ []; tops = ts; formula = f })) (sym c.in_ok-tops.ensures.items) is))
