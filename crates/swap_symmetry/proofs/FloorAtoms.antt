-- An atom stands in a floor or does not, and a swap is free of it or is not.
use Rattle.std.proofs.Common.{◌≡◌, ℕ, ◌<◌, ◌⊎◌, inl, inr, Bool, true, false, List, [], length, get_or, slice_get, Some, Contains, sym, ap, subst, arith, refl}
use Rattle.std.proofs.lemmas.Bool.{cases_lt, cases_Bool}
use Rattle.tuple_core.specs.declared.atom.Atom.{Atom}
use Rattle.tuple_core.specs.Swap.{atom_eq}
use Rattle.tuple_core.proofs.Atoms.{atom_eq-decides}
use Rattle.rel_formula.specs.declared.problem.Cell.{Cell}
use Rattle.rel_formula.specs.Bounds.{Bounded, cell_of, cells_of}
use Rattle.rel_formula.specs.Instance.{StandsIn}
use Rattle.rel_formula.proofs.Lists.{get-Some, some_at, some_below}
use Rattle.swap_symmetry.specs.Swaps.{IsFreeOf}
use Rattle.swap_symmetry.proofs.ListSearches.{tried}

-- two atoms are one or not
one_or_not : (a b : Atom) → (a ≡ b) ⊎ (a ≡ b → ⊥)
one_or_not a b = elim (cases_Bool (atom_eq a b)) [
  | inl t ↦ inl ((atom_eq-decides a b).0 t)
  | inr f ↦ inr (λ e. let t : atom_eq a b ≡ true = (atom_eq-decides a b).1 e in cc)
]

module _ (p : Bounded) (a : Atom) where
  -- the atom stands in the cell of this number
  abbrev StandsAt : ℕ → Type 0
  StandsAt n = (r : ℕ) × (t : List Atom) × (slice_get (cells_of p) n ≡ Some (cell_of r t)) × Contains t a

  at_or_not : (n : ℕ) → StandsAt n ⊎ (StandsAt n → ⊥)
  at_or_not n = elim (cases_lt n (length (cells_of p))) [
    | inr past ↦ inr (λ h. let l = some_below (cells_of p) n (cell_of h.0 h.1) h.2 in omega arith)
    | inl less ↦
        let cell = get_or (cells_of p) n (cell_of 0 []) in
        let at : slice_get (cells_of p) n ≡ Some (cell_of cell.relation cell.tuple) = get-Some (cells_of p) n (cell_of 0 []) less in
        elim (tried (λ b. b ≡ a) (λ b. b ≡ a → ⊥) cell.tuple (λ b c. one_or_not b a)) [
          | inl found ↦ inl (cell.relation, cell.tuple, at, subst (Contains cell.tuple) found.2 found.1)
          | inr none ↦ inr (λ h.
              let same : cell.tuple ≡ h.1 = ap (λ (x : Cell). x.tuple) (some_at (cells_of p) n (cell_of h.0 h.1) (cell_of 0 []) h.2) in
              none a (subst (λ t. Contains t a) (sym same) h.3) refl)
        ]
  ]

  stands_or_not : (floor : List ℕ) → StandsIn p floor a ⊎ (StandsIn p floor a → ⊥)
  stands_or_not floor = elim (tried StandsAt (λ n. StandsAt n → ⊥) floor (λ n c. at_or_not n)) [
    | inl found ↦ let h = found.2 in inl (h.0, h.1, (found.0, found.1, h.2), h.3)
    | inr none ↦ inr (λ (r, t, (n, c, e), d). none n c (r, t, e, d))
  ]

pub free_or_not : (p : Bounded) (floor : List ℕ) (a b : Atom) → IsFreeOf p floor a b ⊎ (IsFreeOf p floor a b → ⊥)
free_or_not p floor a b = elim (stands_or_not p a floor) [
  | inl there ↦ inr (λ free. free.0 there)
  | inr first ↦ elim (stands_or_not p b floor) [ inl there ↦ inr (λ free. free.1 there) | inr second ↦ inl (first, second) ]
]
