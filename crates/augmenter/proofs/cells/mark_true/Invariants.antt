use Rattle.std.proofs.Common.{◌≡◌, ◌↔◌, ◌⊎◌, ◌<◌, ◌≤◌, ℕ, false, get_or, IsTrue}
use Rattle.cnf_core.specs.Valuation.{value_of}
use Rattle.translation_rules.specs.Translation.{var_of}
use Rattle.augmenter.proofs.cells.mark_true.Given as goal

abbrev pub invariant-loop-cell : goal.invariant-loop-cell
invariant-loop-cell l = record {
  done : (n : ℕ) → n < l.cell → IsTrue (get_or l.marks n false) ↔ (IsTrue (get_or l.initial.marks n false) ⊎ IsTrue (value_of l.valuation (var_of n)));
  rest : (n : ℕ) → l.cell ≤ n → get_or l.marks n false ≡ get_or l.initial.marks n false;
}
