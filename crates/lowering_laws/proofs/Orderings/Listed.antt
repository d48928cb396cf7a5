-- The atoms of a unary relation can be listed.
use Rattle.std.proofs.Common.{◌≡◌, ◌⊎◌, ◌↔◌, inl, inr, ℕ, ◌==◌, Bool, true, false, List, [], ◌∷◌, ◌++◌, Option, Some, None, slice_get, Contains, refl, ◌∙◌, ap, arith}
use Rattle.std.proofs.lemmas.Bool.{eqb-true}
use Rattle.std.proofs.lemmas.Bool.Decides.{nat_tests}
use Rattle.std.proofs.lemmas.List.Elements.{Contains-append_left, Contains-append_right, Contains-append_cases}
use Rattle.tuple_core.specs.declared.atom.Atom.{Atom}
use Rattle.rel_formula.specs.declared.problem.Cell.{Cell}
use Rattle.rel_formula.specs.Bounds.{Bounded, relation_at, cell_of, cells_of}
use Rattle.rel_formula.specs.Instance.{HasCell, InRelation}
use Rattle.rel_formula.proofs.OneSetOfAtoms.{only_one}
use Rattle.rel_formula.proofs.OpenCells.{cons_later, cons_cases}
use Rattle.lowering_laws.proofs.Orderings.Lines.{here_is, none_in}

abbrev pub CanBeListed : (Atom → Type 0) → Type 0
CanBeListed P = (xs : List Atom) × ((a : Atom) → Contains xs a ↔ P a)

none_listed : (P : Atom → Type 0) → ((a : Atom) → P a → ⊥) → CanBeListed P
none_listed P none = ([], λ a. (λ c. absurd (none_in a c), λ x. absurd (none a x)))

either_listed : (P Q R : Atom → Type 0) → CanBeListed P → CanBeListed Q → ((a : Atom) → R a ↔ (P a ⊎ Q a)) → CanBeListed R
either_listed P Q R (xs, p) (ys, q) is = (
  xs ++ ys,
  λ a. (
    λ c. elim (Contains-append_cases xs ys a c) [
      | inl x ↦ (is a).1 (inl ((p a).0 x))
      | inr y ↦ (is a).1 (inr ((q a).0 y))
    ],
    λ r. elim ((is a).0 r) [
      | inl x ↦ Contains-append_left xs ys a ((p a).1 x)
      | inr y ↦ Contains-append_right xs ys a ((q a).1 y)
    ],
  ),
)

-- ---- the tuples of one atom in a list

row_listed : (t : List Atom) → CanBeListed (λ a. t ≡ a ∷ [])
row_listed [] = none_listed (λ a. [] ≡ a ∷ []) (λ a e. cc)
row_listed (x ∷ []) = (x ∷ [], λ a. (λ c. ap (λ (y : Atom). y ∷ []) (only_one x a c), λ e. here_is x a [] (let same : x ≡ a = cc in same)))
row_listed (x ∷ y ∷ more) = none_listed (λ a. x ∷ y ∷ more ≡ a ∷ []) (λ a e. cc)

rows_listed : (rows : List (List Atom)) → CanBeListed (λ a. Contains rows (a ∷ []))
rows_listed [] = none_listed (λ a. Contains [] (a ∷ [])) (λ a c. none_in (a ∷ []) c)
rows_listed (t ∷ rows) =
    either_listed (λ a. t ≡ a ∷ []) (λ a. Contains rows (a ∷ [])) (λ a. Contains (t ∷ rows) (a ∷ [])) (row_listed t) (rows_listed rows) (
    λ a. (
      cons_cases t rows (a ∷ []),
      λ x. elim x [ inl same ↦ here_is t (a ∷ []) rows same | inr more ↦ cons_later t rows (a ∷ []) more ],
    ))

-- ---- the chosen cells of one atom

of_another : (r : ℕ) (c : Cell) → c.relation ≡ r → (c.relation == r) ≡ false → ⊥
of_another r c same e = grind (arith, nat_tests)

cell_listed : (r : ℕ) (c : Cell) (b : Bool) → (c.relation == r) ≡ b → CanBeListed (λ a. c ≡ cell_of r (a ∷ []))
cell_listed r c true e =
    let same : c.relation ≡ r = eqb-true c.relation r e in
    let tuple = row_listed c.tuple in (
      tuple.0,
      λ a. (
        λ x. let one : c.tuple ≡ a ∷ [] = (tuple.1 a).0 x in λ i. record { relation = same i; tuple = one i },
        λ is. (tuple.1 a).1 (ap (λ (d : Cell). d.tuple) is),
      ),
    )
cell_listed r c false e = none_listed (λ a. c ≡ cell_of r (a ∷ [])) (λ a is. of_another r c (ap (λ (d : Cell). d.relation) is) e)

option_listed : (r : ℕ) (c : Option Cell) → CanBeListed (λ a. c ≡ Some (cell_of r (a ∷ [])))
option_listed r None = none_listed (λ a. None ≡ Some (cell_of r (a ∷ []))) (λ a e. cc)
option_listed r (Some c) =
    let one = cell_listed r c (c.relation == r) refl in
    (one.0, λ a. (λ x. ap Some ((one.1 a).0 x), λ e. (one.1 a).1 (let same : c ≡ cell_of r (a ∷ []) = cc in same)))

cells_listed : (p : Bounded) (r : ℕ) (s : List ℕ) → CanBeListed (λ a. HasCell p (Contains s) r (a ∷ []))
cells_listed p r [] = none_listed (λ a. HasCell p (Contains []) r (a ∷ [])) (λ a h. none_in h.0 h.1)
cells_listed p r (n ∷ s) =
    either_listed (λ a. slice_get (cells_of p) n ≡ Some (cell_of r (a ∷ []))) (λ a. HasCell p (Contains s) r (a ∷ [])) (λ a. HasCell p (Contains (n ∷ s)) r (a ∷ []))
    (option_listed r (slice_get (cells_of p) n)) (cells_listed p r s) (
    λ a. (
      λ h. elim (cons_cases n s h.0 h.1) [
        | inl same ↦ inl (ap (slice_get (cells_of p)) same ∙ h.2)
        | inr more ↦ inr (h.0, more, h.2)
      ],
      λ x. elim x [
        | inl at ↦ (n, here_is n n s refl, at)
        | inr h ↦ (h.0, cons_later n s h.0 h.1, h.2)
      ],
    ))

pub atoms_listed : (p : Bounded) (s : List ℕ) (r : ℕ) → CanBeListed (λ a. InRelation p (Contains s) r (a ∷ []))
atoms_listed p s r =
    either_listed (λ a. Contains (relation_at p.relations r).lower.rows (a ∷ [])) (λ a. HasCell p (Contains s) r (a ∷ [])) (λ a. InRelation p (Contains s) r (a ∷ []))
    (rows_listed (relation_at p.relations r).lower.rows) (cells_listed p r s) (λ a. (λ x. x, λ x. x))
