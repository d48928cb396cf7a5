use Rattle.std.proofs.Common.{◌≡◌, ◌≢◌, ◌+◌, ◌≤◌, ◌∷◌, [], ℕ, List, refl, sym, ◌∙◌, ap, subst, arith, length}
use Rattle.tuple_core.specs.Rows.{Rows, IsRows}
use Rattle.rel_formula.specs.declared.problem.Relation.{Relation}
use Rattle.rel_formula.specs.Bounds.{Bounded, IsProblem}
use Rattle.rel_formula.specs.Renaming.{IsSymmetric}
use Rattle.rel_formula.specs.Shape.{IsProper}
use Rattle.rel_formula.specs.View.{formula_tree}
use Rattle.samples.proofs.Links.Linked.{atoms_over, product_over, links_problem, links_symmetric}
use Rattle.samples.proofs.sample_links.problems.links.Goals as goal

pub of-requires-3 : goal.of-requires-3
of-requires-3 c =
    let all : Rows = c.in_ok-all.all in
    let rows : IsRows all = c.rows.ensures.well in
    let one : all.arity ≡ 1 = c.in_ok-all.ensures.arity in
    let set : Relation = record { name = c.in_ok-of.field-0; lower = c.in_ok-fixed.fixed; upper = all } in
    let relation : Relation = record { name = c.in_ok-of-2.field-0; lower = c.new-none.result; upper = c.in_ok-pairs.pairs } in
    let f = formula_tree c.args.formula in
    let over = product_over all all all relation.upper (atoms_over all rows one) (atoms_over all rows one) c.in_ok-pairs.ensures in
    let two : relation.upper.arity ≡ 2 = (let s = c.in_ok-pairs.ensures.arity_is in omega arith) in
    let same : relation.lower.arity ≡ relation.upper.arity = c.new-none.ensures.arity ∙ sym two in
    let names : set.name ≢ relation.name = λ e. let l = ap length (sym c.in_ok-of.ensures ∙ e ∙ c.in_ok-of-2.ensures) in omega arith in
    let few : length all.rows + length relation.upper.rows ≤ 4096 = omega arith in
    let is = links_problem all set relation f rows one c.in_ok-fixed.ensures refl c.new-none.ensures.rows over
    c.in_ok-all.ensures.tops c.rows-2.ensures.well c.rows-3.ensures.well c.rows-4.ensures.well same names few
    (subst (λ (n : ℕ). IsProper (1 ∷ n ∷ []) 0 f) (sym two) c.requires) in
    subst (λ (rs : List Relation). IsProblem (record { relations = rs; tops = c.in_ok-tops.tops.items; formula = f })) (sym c.in_ok-relations.ensures.items)
    (subst (λ (ts : List ℕ). IsProblem (record { relations = set ∷ relation ∷ []; tops = ts; formula = f })) (sym c.in_ok-tops.ensures.items) is)

pub returns : goal.returns
returns c =
    let all : Rows = c.in_ok-all.all in
    let rows : IsRows all = c.rows.ensures.well in
    let one : all.arity ≡ 1 = c.in_ok-all.ensures.arity in
    let set : Relation = record { name = c.in_ok-of.field-0; lower = c.in_ok-fixed.fixed; upper = all } in
    let relation : Relation = record { name = c.in_ok-of-2.field-0; lower = c.new-none.result; upper = c.in_ok-pairs.pairs } in
    let f = formula_tree c.args.formula in
    let over = product_over all all all relation.upper (atoms_over all rows one) (atoms_over all rows one) c.in_ok-pairs.ensures in
    let is = links_symmetric all set relation f rows one c.in_ok-fixed.ensures refl c.new-none.ensures.rows over in
    record {
      symmetric =
          subst IsSymmetric (sym c.in_ok-problem.ensures)
          (subst (λ (rs : List Relation). IsSymmetric (record { relations = rs; tops = c.in_ok-tops.tops.items; formula = f })) (sym c.in_ok-relations.ensures.items)
          (subst (λ (ts : List ℕ). IsSymmetric (record { relations = set ∷ relation ∷ []; tops = ts; formula = f })) (sym c.in_ok-tops.ensures.items) is));
      tops = ap (λ (p : Bounded). p.tops) c.in_ok-problem.ensures ∙ c.in_ok-tops.ensures.items;
    }
