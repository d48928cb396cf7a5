use Rattle.std.proofs.Common.{◌↔◌, ◌<◌, ℕ, false, get_or, AllPairs, Contains, IsTrue}
use Rattle.augmenter.proofs.cells.marked_outside.Given as goal

abbrev pub invariant-loop-place : goal.invariant-loop-place
invariant-loop-place l = record {
  exactly : (n : ℕ) → Contains l.cells.items n ↔ ((n < l.place) × (Contains l.scenario n → ⊥) × IsTrue (get_or l.marks n false));
  rising : AllPairs (λ m n. m < n) l.cells.items;
}
