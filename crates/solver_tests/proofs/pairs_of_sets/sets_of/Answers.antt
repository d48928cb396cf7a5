use Rattle.std.proofs.Common.{◌≤◌, ◌∙◌, length, ap, arith, sym, subst}
use Rattle.rel_formula.specs.View.{formula_tree}
use Rattle.rel_formula.specs.Bounds.{Bounded}
use Rattle.rel_formula.specs.Renaming.{IsSymmetric}
use Rattle.solver_tests.proofs.TwoSets.{two_sets_problem, two_sets_symmetric}
use Rattle.solver_tests.proofs.pairs_of_sets.sets_of.Goals as goal

pub of-requires : goal.of-requires
of-requires c =
    let few : length c.in_ok-all.all.rows ≤ 1024 = let f = c.if-rows-gt1024.false in let e = ap length c.rows.ensures.value in omega arith in
    two_sets_problem c.in_ok-all.all c.in_ok-relations.relations.items c.rows.ensures.well c.in_ok-all.ensures.arity c.in_ok-relations.ensures (formula_tree c.args.formula)
    c.in_ok-tops.tops.items c.in_ok-tops.ensures.items few c.in_ok-all.ensures.tops c.requires

pub returns : goal.returns
returns c = record {
  symmetric =
      subst IsSymmetric (sym c.in_ok-problem.ensures)
      (two_sets_symmetric c.in_ok-all.all c.in_ok-relations.relations.items c.rows.ensures.well c.in_ok-all.ensures.arity c.in_ok-relations.ensures (formula_tree c.args.formula) c.in_ok-tops.tops.items c.in_ok-tops.ensures.items);
  tops = ap (λ (p : Bounded). p.tops) c.in_ok-problem.ensures ∙ c.in_ok-tops.ensures.items;
}
