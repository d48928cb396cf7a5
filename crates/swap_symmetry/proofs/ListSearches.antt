-- Searches through lists and through a problem's atoms: what was found, or what is true of each one.
use Rattle.std.proofs.Common.{◌≡◌, ℕ, ◌⊎◌, inl, inr, List, [], ◌∷◌, Contains, subst, arith}
use Rattle.std.proofs.lemmas.Bool.{cases_lt}
use Rattle.tuple_core.specs.declared.atom.Atom.{Atom}
use Rattle.rel_formula.specs.declared.problem.Relation.{Relation}
use Rattle.rel_formula.specs.Bounds.{Bounded, IsAtomOf}
use Rattle.rel_formula.proofs.OpenCells.{cons_cases, cons_first, cons_later}

-- two numbers are one or not
pub same_or_not : (m n : ℕ) → (m ≡ n) ⊎ (m ≡ n → ⊥)
same_or_not m n = elim (cases_lt m n) [
  | inl less ↦ inr (λ e. omega arith)
  | inr past ↦ elim (cases_lt n m) [ inl more ↦ inr (λ e. omega arith) | inr back ↦ inl (omega arith) ]
]

-- where each element is of the one kind or of the other, some is of the one, or each of the other
pub tried : {X : Type 0} (Q R : X → Type 0) (xs : List X) → ((x : X) → Contains xs x → Q x ⊎ R x) → ((x : X) × Contains xs x × Q x) ⊎ ((x : X) → Contains xs x → R x)
tried Q R [] each = inr (λ x c. absurd (let l = c.1 in omega arith))
tried Q R (x ∷ xs) each = elim (each x (cons_first x xs)) [
  | inl here ↦ inl (x, cons_first x xs, here)
  | inr other ↦ elim (tried Q R xs (λ y c. each y (cons_later x xs y c))) [
    | inl later ↦ inl (later.0, cons_later x xs later.0 later.1, later.2)
    | inr none ↦ inr (λ y c. elim (cons_cases x xs y c) [ inl same ↦ subst R same other | inr d ↦ none y d ])
  ]
]

module _ (p : Bounded) (Q R : Atom → Type 0) where
  -- some atom of the tuple is of the one kind
  abbrev In : List Atom → Type 0
  In t = (a : Atom) × Contains t a × Q a

  -- each atom of the tuple is of the other
  abbrev NotIn : List Atom → Type 0
  NotIn t = (a : Atom) → Contains t a → R a

  -- some atom of the relation's upper set is of the one kind
  abbrev Above : Relation → Type 0
  Above relation = (t : List Atom) × Contains relation.upper.rows t × In t

  -- each atom of the relation's upper set is of the other
  abbrev NotAbove : Relation → Type 0
  NotAbove relation = (t : List Atom) → Contains relation.upper.rows t → NotIn t

  -- some atom of the problem is of the one kind, or each of the other
  pub tried_atoms : ((a : Atom) → IsAtomOf p a → Q a ⊎ R a) → ((a : Atom) × IsAtomOf p a × Q a) ⊎ ((a : Atom) → IsAtomOf p a → R a)
  tried_atoms each = elim (tried Above NotAbove p.relations (λ relation c. tried In NotIn relation.upper.rows (λ t d. tried Q R t (λ a e. each a (relation, c, (t, d, e)))))) [
    | inl f ↦ inl (f.2.2.0, (f.0, f.1, (f.2.0, f.2.1, f.2.2.1)), f.2.2.2)
    | inr none ↦ inr (λ a h. none h.0 h.1 h.2.0 h.2.1 a h.2.2)
  ]
