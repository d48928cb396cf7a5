-- Lists whose elements are related in pairs.
use Rattle.std.proofs.Common.{◌≡◌, ℕ, zero, suc, ◌+◌, ◌<◌, ◌⊎◌, inl, inr, List, [], ◌∷◌, ◌++◌, map, length, get_or, take, Contains, All, AllPairs, refl, arith, Some, slice_get, ◌∙◌, ap, sym, subst}
use Rattle.std.proofs.lemmas.Bool.{cases_lt}
use Rattle.std.proofs.lemmas.List.{length-take-le, get_or-take}
use Rattle.std.proofs.lemmas.List.Elements.{All-append, All-head, All-map}
use Rattle.std.proofs.lemmas.List.Kept.{AllPairs-cons}

pub pairs_nil : {X : Type 0} (R : X → X → Type 0) → AllPairs R []
pairs_nil R i j d l h = absurd (omega arith)

pub pairs_tail : {X : Type 0} (R : X → X → Type 0) (x : X) (xs : List X) → AllPairs R (x ∷ xs) → AllPairs R xs
pairs_tail R x xs p i j d l h = p (suc i) (suc j) d (omega arith) (omega arith)

pub pairs_head : {X : Type 0} (R : X → X → Type 0) (x : X) (xs : List X) → AllPairs R (x ∷ xs) → All (R x) xs
pairs_head R x xs p k d l = p zero (suc k) d (omega arith) (omega arith)

pub pairs_append : {X : Type 0} (R : X → X → Type 0) (xs ys : List X) → AllPairs R xs → AllPairs R ys → All (λ x. All (R x) ys) xs → AllPairs R (xs ++ ys)
pairs_append R [] ys p q r = q
pairs_append R (x ∷ xs) ys p q r =
    AllPairs-cons R x (xs ++ ys) (All-append (R x) xs ys (pairs_head R x xs p) (All-head (λ z. All (R z) ys) x xs r))
    (pairs_append R xs ys (pairs_tail R x xs p) q (λ k d l. r (suc k) d (omega arith)))

pub pairs_map : {X Y : Type 0} (R : Y → Y → Type 0) (f : X → Y) (xs : List X) → AllPairs (λ x y. R (f x) (f y)) xs → AllPairs R (map f xs)
pairs_map R f [] p = pairs_nil R
pairs_map R f (x ∷ xs) p =
    AllPairs-cons R (f x) (map f xs) (All-map (R (f x)) f xs (pairs_head (λ x y. R (f x) (f y)) x xs p)) (pairs_map R f xs (pairs_tail (λ x y. R (f x) (f y)) x xs p))

pub get-Some : {X : Type 0} (xs : List X) (i : ℕ) (d : X) → i < length xs → slice_get xs i ≡ Some (get_or xs i d)
get-Some [] i d l = absurd (omega arith)
get-Some (x ∷ xs) zero d l = refl
get-Some (x ∷ xs) (suc i) d l = get-Some xs i d (omega arith)

pub some_at : {X : Type 0} (xs : List X) (i : ℕ) (x d : X) → slice_get xs i ≡ Some x → get_or xs i d ≡ x
some_at [] i x d e = cc
some_at (y ∷ ys) zero x d e = cc
some_at (y ∷ ys) (suc i) x d e = some_at ys i x d e

pub some_below : {X : Type 0} (xs : List X) (i : ℕ) (x : X) → slice_get xs i ≡ Some x → i < length xs
some_below [] i x e = absurd (cc)
some_below (y ∷ ys) zero x e = omega arith
some_below (y ∷ ys) (suc i) x e = let h = some_below ys i x e in omega arith

pub Contains-some : {X : Type 0} (xs : List X) (x : X) → Contains xs x → (i : ℕ) × (slice_get xs i ≡ Some x)
Contains-some xs x c = (c.0, get-Some xs c.0 x c.1 ∙ ap (λ y. Some y) c.2)

pub some-Contains : {X : Type 0} (xs : List X) (i : ℕ) (x : X) → slice_get xs i ≡ Some x → Contains xs x
some-Contains xs i x e = (i, some_below xs i x e, some_at xs i x x e)

-- what stands among the first i + 1 stands among the first i, or is the next
pub take_last : {X : Type 0} (xs : List X) (i : ℕ) (y : X) → i < length xs → Contains (take (i + 1) xs) y → Contains (take i xs) y ⊎ (get_or xs i y ≡ y)
take_last xs i y l c =
    let short = length-take-le i xs (omega arith) in
    let long = length-take-le (i + 1) xs (omega arith) in
    let h = c.1 in
    let at : get_or xs c.0 y ≡ y = sym (get_or-take (i + 1) xs c.0 y (omega arith)) ∙ c.2 in
    elim (cases_lt c.0 i) [
      | inl less ↦ inl (c.0, omega arith, get_or-take i xs c.0 y less ∙ at)
      | inr past ↦ let same : c.0 ≡ i = omega arith in inr (subst (λ k. get_or xs k y ≡ y) same at)
    ]
