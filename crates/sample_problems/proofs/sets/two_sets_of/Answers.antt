use Rattle.std.proofs.Common.{ℕ, List, sym, ◌∙◌, ap, subst}
use Rattle.rel_formula.specs.Kernel.{at_least, rel}
use Rattle.rel_formula.specs.Bounds.{Bounded, IsProblem}
use Rattle.rel_formula.specs.Renaming.{IsSymmetric}
use Rattle.sample_problems.proofs.sets.two_sets_of.Goals as goal

pub of-requires : goal.of-requires
of-requires c =
    subst (λ (ts : List ℕ). IsProblem (record { relations = c.in_ok-relations.relations.items; tops = ts; formula = at_least 1 (rel 2) })) (sym c.in_ok-tops.ensures.items) c.in_ok-relations.ensures.problem

pub returns : goal.returns
returns c = record {
  symmetric =
      subst IsSymmetric (sym c.in_ok-problem.ensures)
      (subst (λ (ts : List ℕ). IsSymmetric (record { relations = c.in_ok-relations.relations.items; tops = ts; formula = at_least 1 (rel 2) })) (sym c.in_ok-tops.ensures.items) c.in_ok-relations.ensures.symmetric);
  tops = ap (λ (p : Bounded). p.tops) c.in_ok-problem.ensures ∙ c.in_ok-tops.ensures.items;
}
