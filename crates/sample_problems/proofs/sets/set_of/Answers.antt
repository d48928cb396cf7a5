use Rattle.std.proofs.Common.{◌≡◌, ◌≢◌, ◌*◌, ◌≤◌, ◌∷◌, [], ℕ, List, All, AllPairs, length, sym, ◌∙◌, ap, subst, arith}
use Rattle.std.proofs.lemmas.List.Elements.{All-cons, All-nil}
use Rattle.std.proofs.lemmas.List.Kept.{AllPairs-cons}
use Rattle.tuple_core.specs.Rows.{Rows, IsRows}
use Rattle.rel_formula.specs.declared.problem.Relation.{Relation}
use Rattle.rel_formula.specs.Kernel.{FormulaTree}
use Rattle.rel_formula.specs.View.{formula_tree}
use Rattle.rel_formula.specs.Shape.{IsProper}
use Rattle.rel_formula.specs.Bounds.{Bounded, IsProblem}
use Rattle.rel_formula.specs.Renaming.{IsSymmetric}
use Rattle.rel_formula.proofs.Lists.{pairs_nil}
use Rattle.rel_formula.proofs.Unary.{IsSetOver, any_set, sets_problem, sets_symmetric}
use Rattle.sample_problems.proofs.sets.set_of.Goals as goal

one_set : (all : Rows) (a : Relation) → a.lower.arity ≡ 1 → a.lower.rows ≡ [] → a.upper ≡ all → All (IsSetOver all) (a ∷ [])
one_set all a one none upper = All-cons (IsSetOver all) a [] (any_set all a one none upper) (All-nil (IsSetOver all))

one_name : (a : Relation) → AllPairs (λ (r s : Relation). r.name ≢ s.name) (a ∷ [])
one_name a =
    let Differ : Relation → Relation → Type 0 = λ r s. r.name ≢ s.name in
    AllPairs-cons Differ a [] (All-nil (Differ a)) (pairs_nil Differ)

pub of-requires-2 : goal.of-requires-2
of-requires-2 c =
    let all : Rows = c.in_ok-all.all in
    let set : Relation = record { name = c.in_ok-of.field-0; lower = c.new.result; upper = c.in_ok-copy.field-0 } in
    let formula : FormulaTree = formula_tree c.args.formula in
    let rows : IsRows all = c.rows.ensures.well in
    let one : all.arity ≡ 1 = c.in_ok-all.ensures.arity in
    let sets = one_set all set c.new.ensures.arity c.new.ensures.rows c.in_ok-copy.ensures in
    let few : 1 * length all.rows ≤ 4096 = let e = ap length c.rows.ensures.value in omega arith in
    let proper : IsProper (set.lower.arity ∷ []) 0 formula = subst (λ n. IsProper (n ∷ []) 0 formula) (sym c.new.ensures.arity) c.requires in
    let is = sets_problem all rows one (set ∷ []) sets formula (omega arith) (omega arith) few (one_name set) c.in_ok-all.ensures.tops proper in
    subst (λ (rs : List Relation). IsProblem (record { relations = rs; tops = c.in_ok-tops.tops.items; formula = formula })) (sym c.in_ok-relations.ensures.items)
    (subst (λ (ts : List ℕ). IsProblem (record { relations = set ∷ []; tops = ts; formula = formula })) (sym c.in_ok-tops.ensures.items) is)

pub returns : goal.returns
returns c =
    let all : Rows = c.in_ok-all.all in
    let set : Relation = record { name = c.in_ok-of.field-0; lower = c.new.result; upper = c.in_ok-copy.field-0 } in
    let formula : FormulaTree = formula_tree c.args.formula in
    let rows : IsRows all = c.rows.ensures.well in
    let one : all.arity ≡ 1 = c.in_ok-all.ensures.arity in
    let sets = one_set all set c.new.ensures.arity c.new.ensures.rows c.in_ok-copy.ensures in
    let is = sets_symmetric all rows one (set ∷ []) sets formula (omega arith) in
    record {
      symmetric =
          subst IsSymmetric (sym c.in_ok-problem.ensures)
          (subst (λ (rs : List Relation). IsSymmetric (record { relations = rs; tops = c.in_ok-tops.tops.items; formula = formula })) (sym c.in_ok-relations.ensures.items)
          (subst (λ (ts : List ℕ). IsSymmetric (record { relations = set ∷ []; tops = ts; formula = formula })) (sym c.in_ok-tops.ensures.items) is));
      tops = ap (λ (p : Bounded). p.tops) c.in_ok-problem.ensures ∙ c.in_ok-tops.ensures.items;
    }
