-- Which cells a problem has.
use Rattle.std.proofs.Common.{◌≡◌, ℕ, zero, suc, ◌+◌, ◌<◌, ◌⊎◌, inl, inr, List, [], ◌∷◌, map, filter, not, length, Contains, Bool, true, false, cond, refl, sym, ◌∙◌, ap, subst, arith, Some, slice_get, zero-add, add-zero}
use Rattle.std.specs.List.{list_any}
use Rattle.std.specs.Ordering.{eq_by_cmp}
use Rattle.std.proofs.lemmas.List.Elements.{Contains-append_cases, Contains-append_left, Contains-append_right, Contains-push_cases}
use Rattle.tuple_core.specs.declared.atom.Atom.{Atom}
use Rattle.tuple_core.specs.Order.{tuple_cmp}
use Rattle.rel_formula.specs.declared.problem.Relation.{Relation}
use Rattle.rel_formula.specs.declared.problem.Cell.{Cell}
use Rattle.rel_formula.specs.Bounds.{Bounded, IsProblem, relation_at, open_tuples, cell_of, cells_from, cells_of}
use Rattle.rel_formula.proofs.Lists.{get-Some, some_at, some_below, Contains-some, some-Contains}
use Rattle.rel_formula.proofs.Cells.{any_row, cells_ascend, cells_once}

pub cons_cases : {X : Type 0} (x : X) (xs : List X) (y : X) → Contains (x ∷ xs) y → (x ≡ y) ⊎ Contains xs y
cons_cases x xs y c = elim (Contains-append_cases (x ∷ []) xs y c) [
  | inl a ↦ elim (Contains-push_cases [] x y a) [ inl none ↦ absurd (let l = none.1 in omega arith) | inr e ↦ inl e ]
  | inr b ↦ inr b
]

pub cons_first : {X : Type 0} (x : X) (xs : List X) → Contains (x ∷ xs) x
cons_first x xs = (zero, omega arith, refl)

pub cons_later : {X : Type 0} (x : X) (xs : List X) (y : X) → Contains xs y → Contains (x ∷ xs) y
cons_later x xs y c = Contains-append_right (x ∷ []) xs y c

pub filter_has : {X : Type 0} (p : X → Bool) (xs : List X) (y : X) → Contains (filter p xs) y → Contains xs y × (p y ≡ true)
filter_has p [] y c = absurd (let l = c.1 in omega arith)
filter_has p (x ∷ xs) y c =
    let go : (b : Bool) → p x ≡ b → Contains (cond b (x ∷ filter p xs) (filter p xs)) y → Contains (x ∷ xs) y × (p y ≡ true) =
    λ b. elim b as (λ b. p x ≡ b → Contains (cond b (x ∷ filter p xs) (filter p xs)) y → Contains (x ∷ xs) y × (p y ≡ true)) [
      | true ↦ λ e d. elim (cons_cases x (filter p xs) y d) [
        | inl same ↦ (subst (λ z. Contains (x ∷ xs) z) same (cons_first x xs), subst (λ z. p z ≡ true) same e)
        | inr later ↦ let h = filter_has p xs y later in (cons_later x xs y h.0, h.1)
      ]
      | false ↦ λ e d. let h = filter_has p xs y d in (cons_later x xs y h.0, h.1)
    ] in
    go (p x) refl c

pub has_filter : {X : Type 0} (p : X → Bool) (xs : List X) (y : X) → Contains xs y → p y ≡ true → Contains (filter p xs) y
has_filter p [] y c e = absurd (let l = c.1 in omega arith)
has_filter p (x ∷ xs) y c e =
    let go : (b : Bool) → p x ≡ b → Contains (cond b (x ∷ filter p xs) (filter p xs)) y =
    λ b. elim b as (λ b. p x ≡ b → Contains (cond b (x ∷ filter p xs) (filter p xs)) y) [
      | true ↦ λ t. elim (cons_cases x xs y c) [
        | inl same ↦ subst (λ z. Contains (x ∷ filter p xs) z) same (cons_first x (filter p xs))
        | inr later ↦ cons_later x (filter p xs) y (has_filter p xs y later e)
      ]
      | false ↦ λ t. elim (cons_cases x xs y c) [
        | inl same ↦ absurd (let f : p x ≡ true = subst (λ z. p z ≡ true) (sym same) e in cc)
        | inr later ↦ has_filter p xs y later e
      ]
    ] in
    go (p x) refl

pub map_has : {X Y : Type 0} (f : X → Y) (xs : List X) (y : Y) → Contains (map f xs) y → (x : X) × Contains xs x × (y ≡ f x)
map_has f [] y c = absurd (let l = c.1 in omega arith)
map_has f (x ∷ xs) y c = elim (cons_cases (f x) (map f xs) y c) [
  | inl same ↦ (x, cons_first x xs, sym same)
  | inr later ↦ let h = map_has f xs y later in (h.0, cons_later x xs h.0 h.1, h.2)
]

pub has_map : {X Y : Type 0} (f : X → Y) (xs : List X) (x : X) → Contains xs x → Contains (map f xs) (f x)
has_map f [] x c = absurd (let l = c.1 in omega arith)
has_map f (z ∷ xs) x c = elim (cons_cases z xs x c) [
  | inl same ↦ subst (λ w. Contains (f z ∷ map f xs) (f w)) same (cons_first (f z) (map f xs))
  | inr later ↦ cons_later (f z) (map f xs) (f x) (has_map f xs x later)
]

not_false : (b : Bool) → not b ≡ true → b ≡ true → ⊥
not_false true e f = absurd (cc)
not_false false e f = absurd (cc)

not_true : (b : Bool) → (b ≡ true → ⊥) → not b ≡ true
not_true true h = absurd (h refl)
not_true false h = refl

pub open_has : (relation : Relation) (t : List Atom) → Contains (open_tuples relation) t → Contains relation.upper.rows t × (Contains relation.lower.rows t → ⊥)
open_has relation t c =
    let h = filter_has (λ t. not (list_any (eq_by_cmp tuple_cmp t) relation.lower.rows)) relation.upper.rows t c in
    (h.0, λ low. not_false (list_any (eq_by_cmp tuple_cmp t) relation.lower.rows) h.1 ((any_row t relation.lower.rows).1 low))

pub has_open : (relation : Relation) (t : List Atom) → Contains relation.upper.rows t → (Contains relation.lower.rows t → ⊥) → Contains (open_tuples relation) t
has_open relation t up low =
    has_filter (λ t. not (list_any (eq_by_cmp tuple_cmp t) relation.lower.rows)) relation.upper.rows t up
    (not_true (list_any (eq_by_cmp tuple_cmp t) relation.lower.rows) (λ e. low ((any_row t relation.lower.rows).0 e)))

-- an open tuple of a relation is a cell
cell_in : (r k : ℕ) (relations : List Relation) (relation : Relation) (t : List Atom) → slice_get relations k ≡ Some relation → Contains (open_tuples relation) t → Contains (cells_from r relations) (cell_of (r + k) t)
cell_in r k [] relation t e c = absurd (cc)
cell_in r zero (x ∷ rest) relation t e c =
    let same : x ≡ relation = cc in
    let here = has_map (cell_of r) (open_tuples x) t (subst (λ (y : Relation). Contains (open_tuples y) t) (sym same) c) in
    subst (λ n. Contains (cells_from r (x ∷ rest)) (cell_of n t)) (sym (add-zero r)) (Contains-append_left (map (cell_of r) (open_tuples x)) (cells_from (r + 1) rest) (cell_of r t) here)
cell_in r (suc k) (x ∷ rest) relation t e c =
    let later = cell_in (r + 1) k rest relation t e c in
    let at : r + 1 + k ≡ r + suc k = omega arith in
    subst (λ n. Contains (cells_from r (x ∷ rest)) (cell_of n t)) at (Contains-append_right (map (cell_of r) (open_tuples x)) (cells_from (r + 1) rest) (cell_of (r + 1 + k) t) later)

-- and no other tuple is
record IsOpen (r : ℕ) (relations : List Relation) (c : Cell) : Type 0 where
  place : ℕ
  relation : Relation
  there : slice_get relations place ≡ Some relation
  number : c.relation ≡ r + place
  tuple : Contains (open_tuples relation) c.tuple

cell_out : (r : ℕ) (relations : List Relation) (c : Cell) → Contains (cells_from r relations) c → IsOpen r relations c
cell_out r [] c h = absurd (let l = h.1 in omega arith)
cell_out r (x ∷ rest) c h = elim (Contains-append_cases (map (cell_of r) (open_tuples x)) (cells_from (r + 1) rest) c h) [
  | inl here ↦ let g = map_has (cell_of r) (open_tuples x) c here in
      record {
        place = zero;
        relation = x;
        there = refl;
        number = ap (λ (d : Cell). d.relation) g.2 ∙ sym (add-zero r);
        tuple = subst (λ t. Contains (open_tuples x) t) (sym (ap (λ (d : Cell). d.tuple) g.2)) g.1;
      }
  | inr later ↦ let g = cell_out (r + 1) rest c later in
      record {
        place = suc g.place;
        relation = g.relation;
        there = g.there;
        number = let e = g.number in omega arith;
        tuple = g.tuple;
      }
]

pub open_cell : (p : Bounded) (r : ℕ) (t : List Atom) → r < length p.relations → Contains (relation_at p.relations r).upper.rows t → (Contains (relation_at p.relations r).lower.rows t → ⊥) → (n : ℕ) × (slice_get (cells_of p) n ≡ Some (cell_of r t))
open_cell p r t l up low =
    let there = get-Some p.relations r (record { name = []; lower = record { arity = 1; rows = [] }; upper = record { arity = 1; rows = [] } }) l in
    let c = cell_in 0 r p.relations (relation_at p.relations r) t there (has_open (relation_at p.relations r) t up low) in
    Contains-some (cells_of p) (cell_of r t) (subst (λ n. Contains (cells_of p) (cell_of n t)) (zero-add r) c)

pub cell_open : (p : Bounded) (n r : ℕ) (t : List Atom) → slice_get (cells_of p) n ≡ Some (cell_of r t) → (r < length p.relations) × Contains (relation_at p.relations r).upper.rows t × (Contains (relation_at p.relations r).lower.rows t → ⊥)
cell_open p n r t e =
    let g = cell_out 0 p.relations (cell_of r t) (some-Contains (cells_of p) n (cell_of r t) e) in
    let place : g.place ≡ r = let h = g.number in omega arith in
    let there : slice_get p.relations r ≡ Some g.relation = subst (λ k. slice_get p.relations k ≡ Some g.relation) place g.there in
    let is : relation_at p.relations r ≡ g.relation = some_at p.relations r g.relation (record { name = []; lower = record { arity = 1; rows = [] }; upper = record { arity = 1; rows = [] } }) there in
    let h = open_has g.relation t g.tuple in
    (some_below p.relations r g.relation there, subst (λ (x : Relation). Contains x.upper.rows t) (sym is) h.0, subst (λ (x : Relation). Contains x.lower.rows t → ⊥) (sym is) h.1)

pub cell_once : (p : Bounded) (n m r : ℕ) (t : List Atom) → IsProblem p → slice_get (cells_of p) n ≡ Some (cell_of r t) → slice_get (cells_of p) m ≡ Some (cell_of r t) → n ≡ m
cell_once p n m r t well e f = cells_once (cells_of p) n m (cell_of r t) (cells_ascend 0 p.relations well.relations) e f
