use Rattle.std.proofs.Common.{◌≡◌, AllPairs, take, reverse}
use Rattle.std.specs.List.{Any}
use Rattle.bool_matrix.specs.Cells.{Says}
use Rattle.rel_formula.specs.View.{formula_tree}
use Rattle.rel_formula.specs.Meaning.{Truth}
use Rattle.rel_formula.specs.Evaluation.{HoldsOf}
use Rattle.rel_translate.specs.Tables.{structure_at}
use Rattle.rel_translate.specs.Makes.{Spends, Tells}
use Rattle.rel_translate.specs.Grounding.{IsGuarded, IsMet, AreNotBothMet}
use Rattle.rel_translate.proofs.Grounded.{TermsSoFar, RowsSoFar}
use Rattle.rel_translate.proofs.formula.+truth.Given as goal

abbrev pub invariant-true_of-loop-part : goal.invariant-true_of-loop-part
invariant-true_of-loop-part l = record {
  env : l.env.items ≡ l.fn.env.items;
  spends : Spends l.fn.circuit l.circuit (TermsSoFar l.problem (reverse l.fn.env.items) l.parts l.part-index);
  says : Says l.circuit l.so_far (λ s. HoldsOf l.connective (λ f. Truth (structure_at l.problem s) (reverse l.fn.env.items) (formula_tree f)) (take l.part-index l.parts));
}

abbrev pub invariant-true_at_those-loop-entry : goal.invariant-true_at_those-loop-entry
invariant-true_at_those-loop-entry l = record {
  env : l.env.items ≡ l.fn.env.items;
  told : Tells l.fn.circuit l.circuit l.so_far (λ s. HoldsOf l.connective (IsGuarded l.connective l.fn.circuit s l.problem (reverse l.fn.env.items) (formula_tree l.f)) (take l.entry-index l.entries)) (RowsSoFar l.problem (reverse l.fn.env.items) 1 (formula_tree l.f) l.entries l.entry-index);
}

abbrev pub invariant-true_for_at_most_one-loop-entry : goal.invariant-true_for_at_most_one-loop-entry
invariant-true_for_at_most_one-loop-entry l = record {
  env : l.env.items ≡ l.fn.env.items;
  told : Tells l.fn.circuit l.circuit l.lone (λ s. AllPairs (AreNotBothMet l.fn.circuit s l.problem (reverse l.fn.env.items) (formula_tree l.f)) (take l.entry-index l.entries)) (RowsSoFar l.problem (reverse l.fn.env.items) 2 (formula_tree l.f) l.entries l.entry-index);
  found : Says l.circuit l.found (λ s. Any (IsMet l.fn.circuit s l.problem (reverse l.fn.env.items) (formula_tree l.f)) (take l.entry-index l.entries));
}
