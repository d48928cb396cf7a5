-- Where no instance is minimal there is none.
use Rattle.std.proofs.Common.{inl, inr, ◌≤◌, ℕ, zero, suc, List, [], length, arith}
use Rattle.rel_formula.specs.Bounds.{Bounded}
use Rattle.rel_formula.specs.Instance.{IsInstance, IsMinimalAbove}
use Rattle.translation_rules.proofs.Tests.{includes_or_not}
use Rattle.minimiser.proofs.Cells.{fewer}

module _ (p : Bounded) (none : (s : List ℕ) → IsMinimalAbove p [] s → ⊥) where
  -- there is none of at most so many cells
  none_of : (count : ℕ) (s : List ℕ) → length s ≤ count → IsInstance p s → ⊥
  none_of zero s short is = none s (record {
    instance_of = is;
    above = λ n c. absurd (let l = c.1 in omega arith);
    least = λ t it above within. elim (includes_or_not t s) [
      | inl all ↦ all
      | inr part ↦ absurd (let less = fewer s t it.scenario.rising (within, part) in omega arith)
    ];
  })
  none_of (suc count) s short is = none s (record {
    instance_of = is;
    above = λ n c. absurd (let l = c.1 in omega arith);
    least = λ t it above within. elim (includes_or_not t s) [
      | inl all ↦ all
      | inr part ↦ absurd (none_of count t (let less = fewer s t it.scenario.rising (within, part) in omega arith) it)
    ];
  })

  pub no_instance : (s : List ℕ) → IsInstance p s → ⊥
  no_instance s is = none_of (length s) s (omega arith) is
