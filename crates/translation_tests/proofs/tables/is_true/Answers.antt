use Rattle.std.proofs.Common.{◌∷◌, [], ℕ, List, sym, subst}
use Rattle.rel_formula.specs.View.{formula_tree}
use Rattle.rel_formula.specs.Shape.{IsProper}
use Rattle.rel_formula.specs.Bounds.{IsProblem}
use Rattle.translation_tests.proofs.FixedTables.{tables_problem}
use Rattle.translation_tests.proofs.tables.is_true.Goals as goal

pub of-requires : goal.of-requires
of-requires c =
    let n = c.args.compared.lower.arity in
    let rs = c.in_ok-relations.relations.items in
    let f = formula_tree c.in_ok-copied.copied in
    let proper : IsProper (1 ∷ 1 ∷ 2 ∷ 2 ∷ n ∷ []) 0 f = subst (IsProper (1 ∷ 1 ∷ 2 ∷ 2 ∷ n ∷ []) 0) (sym c.in_ok-copied.ensures) c.requires.formula in
    subst (λ (ts : List ℕ). IsProblem (record { relations = rs; tops = ts; formula = f })) (sym c.in_ok-tops.ensures.items)
    (tables_problem rs n f c.in_ok-relations.ensures proper)
