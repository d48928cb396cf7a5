-- What a problem with fewer facts is to one with more.
use Rattle.std.specs.Prelude.{◌≤◌, ℕ, List}
use Rattle.rel_formula.specs.Bounds.{Bounded}
use Rattle.rel_formula.specs.Instance.{IsInstance}
use Rattle.rel_terms.specs.Terms.{HasTerms}

-- each instance of the one problem is one of the other, which has no more terms
pub record IsWeaker (p q : Bounded) : Type 0 where
  pub instances : (s : List ℕ) → IsInstance p s → IsInstance q s
  pub terms : (k : ℕ) → HasTerms p k → (j : ℕ) × HasTerms q j × (j ≤ k)
