use Rattle.std.proofs.Common.{◌≡◌, ◌∙◌, sym, subst, rules}
use Rattle.rel_formula.specs.View.{formula_tree}
use Rattle.rel_formula.specs.Bounds.{IsProblem}
use Rattle.rel_formula.proofs.problem.Problem.copy.Goals as goal

pub of-requires : goal.of-requires
of-requires c =
    let p = c.args.self.now in
    let relations : c.in_ok-relations.relations.items ≡ p.relations = c.in_ok-relations.ensures ∙ c.relations.ensures.value in
    let equal : c.in_ok-tops.tops.items ≡ c.tops.result.now = search rules in
    let tops : c.in_ok-tops.tops.items ≡ p.tops = equal ∙ c.tops.ensures in
    let formula : formula_tree c.in_ok-formula.formula ≡ p.formula = c.in_ok-formula.ensures ∙ c.formula.ensures in
    let same : record { relations = c.in_ok-relations.relations.items; tops = c.in_ok-tops.tops.items; formula = formula_tree c.in_ok-formula.formula } ≡ p =
    λ i. record { relations = relations i; tops = tops i; formula = formula i } in
    subst IsProblem (sym same) c.relations.ensures.well
