use Rattle.std.proofs.Common.{◌∷◌, [], ℕ, refl, sym, subst}
use Rattle.rel_formula.specs.View.{formula_tree}
use Rattle.rel_formula.specs.Shape.{IsProper}
use Rattle.translation_tests.proofs.tables.holds_beside_pairs.Goals as goal

pub is_true-requires-clause-compared : goal.is_true-requires-clause-compared
is_true-requires-clause-compared c =
    let is = c.in_ok-compared.ensures in
    record { fixed = is.fixed; named = is.named; wide = refl }

pub is_true-requires-clause-formula : goal.is_true-requires-clause-formula
is_true-requires-clause-formula c =
    subst (λ (n : ℕ). IsProper (1 ∷ 1 ∷ 2 ∷ 2 ∷ n ∷ []) 0 (formula_tree c.args.formula)) (sym c.in_ok-compared.ensures.wide) c.requires
