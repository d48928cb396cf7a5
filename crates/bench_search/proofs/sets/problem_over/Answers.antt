use Rattle.std.proofs.Common.{◌≡◌, ◌+◌, ◌*◌, ◌≤◌, ℕ, List, map, length, sym, ◌∙◌, ap, subst, arith}
use Rattle.std.proofs.lemmas.List.{length-map}
use Rattle.std.proofs.lemmas.Nat.{mul-le}
use Rattle.tuple_core.specs.Rows.{Rows}
use Rattle.rel_formula.specs.declared.problem.Relation.{Relation}
use Rattle.rel_formula.specs.Kernel.{FormulaTree}
use Rattle.rel_formula.specs.View.{formula_tree}
use Rattle.rel_formula.specs.Shape.{IsProper}
use Rattle.rel_formula.specs.Bounds.{Bounded, IsProblem}
use Rattle.rel_formula.specs.Renaming.{IsSymmetric}
use Rattle.rel_formula.proofs.Unary.{sets_problem, sets_symmetric}
use Rattle.bench_search.proofs.SetLemmas.{sets_over, ones_of}
use Rattle.bench_search.proofs.sets.problem_over.Goals as goal

pub of-requires : goal.of-requires
of-requires c =
    let all : Rows = c.args.all.now in
    let rs : List Relation = c.in_ok-relations.relations.items in
    let formula : FormulaTree = formula_tree c.args.formula in
    let is_few = c.requires.atoms in
    let each = c.in_ok-relations.ensures.over.each in
    let sets = sets_over all rs is_few.rows is_few.one each in
    let count : length rs ≡ c.args.sets + 1 = c.in_ok-relations.ensures.count in
    let most : length rs * length all.rows ≤ 21 * 100 = mul-le (length rs) (length all.rows) 21 100 (omega (arith, count, c.requires.few)) is_few.few in
    let few : length rs * length all.rows ≤ 4096 = omega (arith, most) in
    let arities : List ℕ = map (λ (r : Relation). r.lower.arity) rs in
    let proper : IsProper arities 0 formula = c.requires.formula.about arities (length-map rs (λ (r : Relation). r.lower.arity) ∙ count) (ones_of all rs each) in
    let is = sets_problem all is_few.rows is_few.one rs sets formula (omega (arith, count)) (omega (arith, count, c.requires.few)) few c.in_ok-relations.ensures.over.names is_few.first proper in
    subst (λ (ts : List ℕ). IsProblem (record { relations = rs; tops = ts; formula = formula })) (sym c.in_ok-tops.ensures.items) is

pub returns : goal.returns
returns c =
    let all : Rows = c.args.all.now in
    let rs : List Relation = c.in_ok-relations.relations.items in
    let formula : FormulaTree = formula_tree c.args.formula in
    let is_few = c.requires.atoms in
    let sets = sets_over all rs is_few.rows is_few.one c.in_ok-relations.ensures.over.each in
    let count : length rs ≡ c.args.sets + 1 = c.in_ok-relations.ensures.count in
    let is = sets_symmetric all is_few.rows is_few.one rs sets formula (omega (arith, count)) in
    record {
      symmetric =
          subst IsSymmetric (sym c.in_ok-of.ensures)
          (subst (λ (ts : List ℕ). IsSymmetric (record { relations = rs; tops = ts; formula = formula })) (sym c.in_ok-tops.ensures.items) is);
      tops = ap (λ (p : Bounded). p.tops) c.in_ok-of.ensures ∙ c.in_ok-tops.ensures.items;
    }
