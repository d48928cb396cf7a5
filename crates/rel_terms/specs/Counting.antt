-- A running number of terms: how it goes on, and what is known of it above the limit.
use Rattle.std.specs.Prelude.{◌≡◌, ◌+◌, ◌*◌, ◌≤◌, ◌<◌, ◌^◌, ℕ, List, [], ◌∷◌, map, length, slice_index_or}
use Rattle.std.specs.declared.cmp.Ordering.TheVariants.{Less}
use Rattle.tuple_core.specs.declared.atom.Atom.{Atom}
use Rattle.tuple_core.specs.Operators.{Pred}
use Rattle.tuple_core.specs.Order.{tuple_cmp}
use Rattle.tuple_core.specs.Rows.{Rows, HasJust}
use Rattle.rel_formula.specs.Bounds.{Bounded}
use Rattle.rel_formula.specs.Kernel.{FormulaTree}
use Rattle.rel_formula.specs.Meaning.{Structure, HasAtLeast}
use Rattle.rel_formula.specs.Sizes.{HasSize}
use Rattle.rel_terms.specs.Numbers.{Number, Is, ◌⊕◌, Only}
use Rattle.rel_terms.specs.Terms.{FormulaHas}

-- the number that has the fact was added; where the sum is above the limit, no more than that is known of it
pub record Adds (C : Number) (before after : ℕ) : Type 0 where
  pub rises : before ≤ after
  pub exact : after ≤ 2 ^ 18 → (n : ℕ) × Only C n × (after ≡ before + n)
  pub above : 2 ^ 18 < after → (n : ℕ) → C n → 2 ^ 18 < before + n

-- so many for each tuple of P were added, or for so many of them that the sum is above the limit
pub record AddsForEach (times : ℕ) (P : Pred) (before after : ℕ) : Type 0 where
  pub part : ℕ
  pub there : HasAtLeast part P
  pub adds : Adds (Is (times * part)) before after
  pub all : after ≤ 2 ^ 18 → HasSize P part

-- the number was added, and the tuples are those of P, where the sum isn't above the limit
pub record IsCounted (v : Rows) (arity : ℕ) (P : Pred) (C : Number) (before after : ℕ) : Type 0 where
  pub arity_is : v.arity ≡ arity
  pub just : after ≤ 2 ^ 18 → HasJust v P
  pub adds : Adds C before after

-- the place in the list before which each tuple comes before x, and from which none does
pub record IsPlaceOf (rows : List (List Atom)) (x : List Atom) (place : ℕ) : Type 0 where
  pub bound : place ≤ length rows
  pub before : (k : ℕ) (d : List Atom) → k < place → tuple_cmp (slice_index_or rows k d) x ≡ Less
  pub after : (k : ℕ) (d : List Atom) → place ≤ k → k < length rows → tuple_cmp (slice_index_or rows k d) x ≡ Less → ⊥

-- a number more, and the terms of the formula, for the first atom of each tuple
abbrev pub RowsHave : Structure → List Atom → ℕ → FormulaTree → List (List Atom) → Number
RowsHave M env more f [] n = Is 0 n
RowsHave M env more f ([] ∷ rows) n = RowsHave M env more f rows n
RowsHave M env more f ((a ∷ t) ∷ rows) n = ((Is more ⊕ FormulaHas M (a ∷ env) f) ⊕ RowsHave M env more f rows) n

-- the arity of each relation
abbrev pub arities_of : Bounded → List ℕ
arities_of p = map (λ r. r.lower.arity) p.relations
