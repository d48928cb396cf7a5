use Rattle.std.proofs.Common.{◌≡◌, ◌↔◌, All, AllPairs, IsTrue, take, reverse}
use Rattle.std.specs.List.{Any}
use Rattle.rel_formula.specs.View.{formula_tree}
use Rattle.rel_formula.specs.Meaning.{Truth}
use Rattle.rel_formula.specs.Evaluation.{IsTrueAt, AreNotBothTrue}
use Rattle.rel_formula.specs.Tables.{tabled}
use Rattle.rel_formula.proofs.evaluate.+truth.Given as goal

abbrev pub invariant-all_true-loop-part : goal.invariant-all_true-loop-part
invariant-all_true-loop-part l = record {
  env : l.env.items ≡ l.fn.env.items;
  all : All (λ f. Truth (tabled l.tables) (reverse l.fn.env.items) (formula_tree f)) (take l.part-index l.parts);
}

abbrev pub invariant-any_true-loop-part : goal.invariant-any_true-loop-part
invariant-any_true-loop-part l = record {
  env : l.env.items ≡ l.fn.env.items;
  none : All (λ f. Truth (tabled l.tables) (reverse l.fn.env.items) (formula_tree f) → ⊥) (take l.part-index l.parts);
}

abbrev pub invariant-true_for_all-loop-row : goal.invariant-true_for_all-loop-row
invariant-true_for_all-loop-row l = record {
  env : l.env.items ≡ l.fn.env.items;
  all : All (IsTrueAt (tabled l.tables) (reverse l.fn.env.items) (formula_tree l.f)) (take l.row-index l.rows);
}

abbrev pub invariant-true_for_some-loop-row : goal.invariant-true_for_some-loop-row
invariant-true_for_some-loop-row l = record {
  env : l.env.items ≡ l.fn.env.items;
  none : All (λ row. IsTrueAt (tabled l.tables) (reverse l.fn.env.items) (formula_tree l.f) row → ⊥) (take l.row-index l.rows);
}

abbrev pub invariant-true_for_at_most_one-loop-row : goal.invariant-true_for_at_most_one-loop-row
invariant-true_for_at_most_one-loop-row l = record {
  env : l.env.items ≡ l.fn.env.items;
  found : IsTrue l.found ↔ Any (IsTrueAt (tabled l.tables) (reverse l.fn.env.items) (formula_tree l.f)) (take l.row-index l.rows);
  lone : AllPairs (AreNotBothTrue (tabled l.tables) (reverse l.fn.env.items) (formula_tree l.f)) (take l.row-index l.rows);
}
