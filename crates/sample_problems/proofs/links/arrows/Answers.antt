use Rattle.std.proofs.Common.{◌≡◌, ◌≢◌, ◌+◌, ◌<◌, ◌≤◌, ◌∷◌, [], ℕ, List, All, sym, ◌∙◌, ap, subst, arith, length}
use Rattle.std.proofs.lemmas.List.Elements.{All-cons, All-nil}
use Rattle.tuple_core.specs.declared.atom.Atom.{Atom}
use Rattle.tuple_core.specs.Rows.{Rows}
use Rattle.rel_formula.specs.declared.problem.Relation.{Relation}
use Rattle.rel_formula.specs.Shape.{IsProper}
use Rattle.rel_formula.specs.View.{formula_tree}
use Rattle.rel_formula.specs.Bounds.{IsProblem, relation_at}
use Rattle.rel_formula.proofs.TwoRelations.{two_problem}
use Rattle.sample_problems.proofs.links.arrows.Goals as goal

pub of-requires : goal.of-requires
of-requires c =
    let set : Relation = c.in_ok-set.set in
    let arrows : Relation = c.in_ok-relation.relation in
    let a = c.in_ok-set.ensures in
    let b = c.in_ok-relation.ensures in
    let f = formula_tree c.args.formula in
    let few : length set.upper.rows + length arrows.upper.rows ≤ 4096 = omega arith in
    let names : set.name ≢ arrows.name = λ e. let l = ap length (sym a.name ∙ e ∙ b.name) in omega arith in
    let one : set.lower.arity ≡ 1 = ap (λ (v : Rows). v.arity) a.lower ∙ c.in_ok-lower.ensures.arity in
    let two : arrows.lower.arity ≡ 2 = ap (λ (v : Rows). v.arity) b.lower ∙ c.new.ensures.arity in
    let proper : IsProper (set.lower.arity ∷ arrows.lower.arity ∷ []) 0 f =
    subst (λ (n : ℕ). IsProper (n ∷ arrows.lower.arity ∷ []) 0 f) (sym one) (subst (λ (n : ℕ). IsProper (1 ∷ n ∷ []) 0 f) (sym two) c.requires) in
    let unary : set.upper.arity ≡ 1 = ap (λ (v : Rows). v.arity) a.upper ∙ c.in_ok-upper.ensures.arity in
    let Fit : Rows → Type 0 = λ v. All (All (λ (x : Atom). x.top < 1)) v.rows in
    let is = two_problem set arrows (0 ∷ []) f a.relation b.relation names few
    (All-cons (λ r. r < 2) 0 [] (omega arith) (All-nil (λ r. r < 2)))
    (All-cons (λ r. (relation_at (set ∷ arrows ∷ []) r).upper.arity ≡ 1) 0 [] unary (All-nil (λ r. (relation_at (set ∷ arrows ∷ []) r).upper.arity ≡ 1)))
    (λ i j d l h. absurd (omega arith)) (subst Fit (sym a.upper) c.in_ok-upper.ensures.tops) (subst Fit (sym b.upper) c.in_ok-all.ensures.tops) proper in
    subst (λ (rs : List Relation). IsProblem (record { relations = rs; tops = c.in_ok-tops.tops.items; formula = f })) (sym c.in_ok-relations.ensures.items)
    (subst (λ (ts : List ℕ). IsProblem (record { relations = set ∷ arrows ∷ []; tops = ts; formula = f })) (sym c.in_ok-tops.ensures.items) is)
