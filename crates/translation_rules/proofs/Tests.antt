-- Tests of lists, and what they say of the members.
use Rattle.std.proofs.Common.{◌≡◌, ◌↔◌, ◌⊎◌, inl, inr, ◌+◌, ◌<◌, ℕ, Bool, true, false, not, ◌&&◌, List, [], ◌∷◌, ◌++◌, flat_map, get_or, All, Contains, IsTrue, length, refl, sym, ◌∙◌, subst, arith}
use Rattle.std.specs.Prelude.{nat_eq}
use Rattle.std.specs.List.{list_any, range_with_len}
use Rattle.std.proofs.lemmas.Bool.{cases_Bool, eqb-true, eq-eqb}
use Rattle.std.proofs.lemmas.List.{get_or_default}
use Rattle.std.proofs.lemmas.List.Elements.{All-contains, Contains-append_left, Contains-append_right, Contains-append_cases}
use Rattle.std.proofs.lemmas.List.FromFn.{length-range_with_len, get_or-range_with_len}
use Rattle.std.proofs.lemmas.List.Folds.{list_any_at, Any-from_list_any}
use Rattle.rel_formula.specs.Bounds.{Bounded, cells_of}
use Rattle.rel_formula.specs.Instance.{AreCells, Includes}
use Rattle.rel_formula.proofs.OpenCells.{cons_cases, cons_first, cons_later}

-- a list that passes a test has a member that does
pub any_has : {X : Type 0} (test : X → Bool) (xs : List X) → list_any test xs ≡ true → (x : X) × Contains xs x × (test x ≡ true)
any_has test xs h = let f = Any-from_list_any test xs h in (f.1, (f.0, f.2, f.3), f.4)

pub has_any : {X : Type 0} (test : X → Bool) (xs : List X) (x : X) → Contains xs x → test x ≡ true → list_any test xs ≡ true
has_any test xs x c h = list_any_at test xs c.0 x c.1 (subst (λ y. test y ≡ true) (sym c.2) h)

-- whether a number is in a list
pub any_number : (n : ℕ) (xs : List ℕ) → (list_any (nat_eq n) xs ≡ true) ↔ Contains xs n
any_number n xs = (
  λ h. let f = any_has (nat_eq n) xs h in subst (Contains xs) (sym (eqb-true n f.0 f.2)) f.1,
  λ c. has_any (nat_eq n) xs n c (eq-eqb n n refl),
)

-- a number is in a list or not
pub in_or_not : (n : ℕ) (xs : List ℕ) → Contains xs n ⊎ (Contains xs n → ⊥)
in_or_not n xs = elim (cases_Bool (list_any (nat_eq n) xs)) [
  | inl t ↦ inl ((any_number n xs).0 t)
  | inr f ↦ inr (λ c. let t = (any_number n xs).1 c in absurd cc)
]

-- the numbers below another are those of its range
pub in_range : (count n : ℕ) → Contains (range_with_len 0 count) n → n < count
in_range count n c =
    let l : c.0 < count = let long = length-range_with_len 0 count in let in' = c.1 in omega arith in
    let same : n ≡ 0 + c.0 = sym c.2 ∙ get_or-range_with_len 0 count c.0 n l in
    omega arith

pub range_in : (count n : ℕ) → n < count → Contains (range_with_len 0 count) n
range_in count n l = (n, (let long = length-range_with_len 0 count in omega arith), (let e : get_or (range_with_len 0 count) n n ≡ 0 + n = get_or-range_with_len 0 count n n l in omega arith))

-- a member of lists that are put one after the other is one of some list
pub flat_has : {X Y : Type 0} (f : X → List Y) (xs : List X) (y : Y) → Contains (flat_map f xs) y → (x : X) × Contains xs x × Contains (f x) y
flat_has f [] y c = absurd (let l = c.1 in omega arith)
flat_has f (x ∷ xs) y c = elim (Contains-append_cases (f x) (flat_map f xs) y c) [
  | inl here ↦ (x, cons_first x xs, here)
  | inr later ↦ let r = flat_has f xs y later in (r.0, cons_later x xs r.0 r.1, r.2)
]

-- what is true of two lists is true of each
pub front : {X : Type 0} (P : X → Type 0) (xs ys : List X) → All P (xs ++ ys) → All P xs
front P xs ys h k d l = All-contains P (xs ++ ys) (get_or xs k d) h (Contains-append_left xs ys (get_or xs k d) (k, l, get_or_default xs k (get_or xs k d) d l))

pub back : {X : Type 0} (P : X → Type 0) (xs ys : List X) → All P (xs ++ ys) → All P ys
back P xs ys h k d l = All-contains P (xs ++ ys) (get_or ys k d) h (Contains-append_right xs ys (get_or ys k d) (k, l, get_or_default ys k (get_or ys k d) d l))

-- what is true of each member is true of the list
pub from_each : {X : Type 0} (P : X → Type 0) (xs : List X) → ((x : X) → Contains xs x → P x) → All P xs
from_each P xs h k d l = h (get_or xs k d) (k, l, get_or_default xs k (get_or xs k d) d l)

-- a scenario includes another or not
pub includes_or_not : (s b : List ℕ) → Includes s b ⊎ (Includes s b → ⊥)
includes_or_not s [] = inl (λ n c. absurd (let l = c.1 in omega arith))
includes_or_not s (m ∷ ms) = elim (in_or_not m s) [
  | inr missing ↦ inr (λ all. missing (all m (cons_first m ms)))
  | inl there ↦ elim (includes_or_not s ms) [
    | inl rest ↦ inl (λ n c. elim (cons_cases m ms n c) [ inl same ↦ subst (Contains s) same there | inr later ↦ rest n later ])
    | inr not_all ↦ inr (λ all. not_all (λ n c. all n (cons_later m ms n c)))
  ]
]

-- the numbers that a scenario includes are those of cells
pub cells_within : (p : Bounded) (s cells : List ℕ) → AreCells p s → Includes s cells → AreCells p cells
cells_within p s cells are above = from_each (λ n. n < length (cells_of p)) cells (λ n c. All-contains (λ n. n < length (cells_of p)) s n are (above n c))

-- two tests that both fail
pub neither : (x y : Bool) (P Q : Type 0) → (x ≡ true) ↔ P → (y ≡ true) ↔ Q → IsTrue (not x && not y) ↔ ((P → ⊥) × (Q → ⊥))
neither true y P Q f g = (λ h. absurd (let e : false ≡ true = h in cc), λ n. absurd (n.0 (f.0 refl)))
neither false true P Q f g = (λ h. absurd (let e : false ≡ true = h in cc), λ n. absurd (n.1 (g.0 refl)))
neither false false P Q f g = (
  λ h. (λ q. absurd (let e : false ≡ true = f.1 q in cc), λ q. absurd (let e : false ≡ true = g.1 q in cc)),
  λ n. refl,
)
