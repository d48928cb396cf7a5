-- Lists without repetition, and sums over them.
use Rattle.std.proofs.Common.{◌≡◌, ℕ, zero, suc, ◌<◌, ◌≤◌, List, [], ◌∷◌, length, map, get_or, sum_by, remove, Contains, refl, sym, ap, subst, inl, inr, ◌⊎◌, arith}
use Rattle.std.specs.declared.cmp.Ordering.TheVariants.{Less, Equal}
use Rattle.std.proofs.lemmas.Cmp.{tied_itself}
use Rattle.std.proofs.lemmas.List.Sums.{sum_by-cons}
use Rattle.std.proofs.lemmas.List.Sorted.{IsPermutation-remove, Contains-permutation, sum_by-IsPermutation}
use Rattle.tuple_core.specs.declared.atom.Atom.{Atom}
use Rattle.tuple_core.specs.Order.{tuple_cmp}
use Rattle.tuple_core.proofs.Ascending.{tuple_order}
use Rattle.bool_matrix.specs.declared.entry.Entry.{Entry}
use Rattle.bool_matrix.specs.Entries.{IsAscending}
use Rattle.bool_matrix.specs.Cells.{Cells, AtEntry, ThereIn}
use Rattle.bool_matrix.specs.Terms.{tuples}
use Rattle.bool_matrix.proofs.Edits.{at_gives}

-- z stands in the list
abbrev pub In : {X : Type 0} → X → List X → Type 0
In z [] = ⊥
In z (x ∷ xs) = (z ≡ x) ⊎ In z xs

-- no element stands twice
abbrev pub Distinct : {X : Type 0} → List X → Type 0
Distinct [] = Unit {0}
Distinct (x ∷ xs) = (In x xs → ⊥) × Distinct xs

contains_cons : {X : Type 0} (x : X) (xs : List X) (t : X) → Contains (x ∷ xs) t → (x ≡ t) ⊎ Contains xs t
contains_cons x xs t (zero, l, e) = inl e
contains_cons x xs t (suc k, l, e) = inr (k, omega arith, e)

pub sum_within : {X : Type 0} (f : X → ℕ) (xs ys : List X) → Distinct xs → ((z : X) → In z xs → Contains ys z) → sum_by f xs ≤ sum_by f ys
sum_within f [] ys apart in' = omega arith
sum_within f (x ∷ xs) ys apart in' =
    let c = in' x (inl refl) in
    let rest = remove ys c.0 in
    let moved = IsPermutation-remove ys c.0 x c.1 (sym c.2) in
    let below = sum_within f xs rest apart.1 (λ z i. elim (contains_cons x rest z (Contains-permutation ys (x ∷ rest) z moved (in' z (inr i)))) [ inl e ↦ absurd (apart.0 (subst (λ y. In y xs) (sym e) i)) | inr d ↦ d ]) in
    omega (arith, sum_by-cons f x xs, sum_by-cons f x rest, sum_by-IsPermutation f ys (x ∷ rest) moved, below)

ones : {X : Type 0} (xs : List X) → sum_by (λ _. 1) xs ≡ length xs
ones [] = refl
ones (x ∷ xs) = let h = sum_by-cons (λ _. 1) x xs in let r = ones xs in omega arith

-- a list without repetition is no longer than one that has all its elements
pub length_within : {X : Type 0} (xs ys : List X) → Distinct xs → ((z : X) → In z xs → Contains ys z) → length xs ≤ length ys
length_within xs ys apart in' = omega (arith, ones xs, ones ys, sum_within (λ _. 1) xs ys apart in')

in_at : {X Y : Type 0} (f : X → Y) (xs : List X) (z : Y) → In z (map f xs) → (k : ℕ) × (k < length xs) × ((d : X) → z ≡ f (get_or xs k d))
in_at f [] z i = absurd i
in_at f (x ∷ xs) z i = elim i [ inl e ↦ (zero, omega arith, λ d. e) | inr j ↦ let r = in_at f xs z j in (suc r.0, (let l = r.1 in omega arith), r.2) ]

pub contains_map : {X Y : Type 0} (f : X → Y) (xs : List X) (x : X) → Contains xs x → Contains (map f xs) (f x)
contains_map f [] x c = absurd (let l = c.1 in omega arith)
contains_map f (y ∷ xs) x c = elim (contains_cons y xs x c) [ inl e ↦ (zero, omega arith, ap f e) | inr d ↦ let r = contains_map f xs x d in (suc r.0, (let l = r.1 in omega arith), r.2) ]

-- the tuples of a matrix
pub tuples_distinct : (es : List Entry) → IsAscending es → Distinct (map (λ (e : Entry). e.tuple) es)
tuples_distinct [] up = tt
tuples_distinct (e ∷ es) up = (
  λ i.
      let at = in_at (λ (d : Entry). d.tuple) es e.tuple i in
      let less : tuple_cmp e.tuple (get_or es at.0 e).tuple ≡ Less = up zero (suc at.0) e (omega arith) (let l = at.1 in omega arith) in
      let less' : tuple_cmp e.tuple e.tuple ≡ Less = subst (λ (t : List Atom). tuple_cmp e.tuple t ≡ Less) (sym (at.2 e)) less in
      let itself : tuple_cmp e.tuple e.tuple ≡ Equal = tied_itself tuple_order e.tuple in
      cc,
  tuples_distinct es (λ i j d lt l. up (suc i) (suc j) d (omega arith) (omega arith)),
)

pub tuple_there : (m : Cells) (t : List Atom) → In t (tuples m) → ThereIn m t
tuple_there m t i =
    let at = in_at (λ (d : Entry). d.tuple) m.entries t i in
    let none : Entry = record { tuple = []; node = 0 } in
    at_gives m.entries at.0 none AtEntry t at.1 (at.2 none)

pub there_tuple : (m : Cells) (t : List Atom) → ThereIn m t → Contains (tuples m) t
there_tuple m t g = subst (λ u. Contains (tuples m) u) (sym g.2) (contains_map (λ (d : Entry). d.tuple) m.entries g.0 g.1)
