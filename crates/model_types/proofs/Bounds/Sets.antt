-- Whether a test is true of one of the lists that an operator makes.
use Rattle.std.proofs.Common.{◌≡◌, ℕ, Bool, true, false, ◌&&◌, ◌||◌, List, [], ◌∷◌, ◌++◌, map, filter, flat_map, refl, ap, ◌∙◌, if◌then◌else◌}
use Rattle.std.specs.List.{list_any}
use Rattle.std.proofs.lemmas.List.Folds.{list_any-append}
use Rattle.std.proofs.lemmas.List.Concat.{flat_map-cons}
use Rattle.model_types.specs.Bounding.{Lists, products, joined, joins}

module _ {X : Type 0} where
  -- tests that agree
  pub any_alike : (t u : X → Bool) → ((x : X) → t x ≡ u x) → (xs : List X) → list_any t xs ≡ list_any u xs
  any_alike t u h [] = refl
  any_alike t u h (x ∷ xs) = λ i. h x i || any_alike t u h xs i

  pub any-filter : (t p : X → Bool) (xs : List X) → list_any t (filter p xs) ≡ list_any (λ x. p x && t x) xs
  any-filter t p [] = refl
  any-filter t p (x ∷ xs) = go (p x) (any-filter t p xs)
    where
      go : (b : Bool) → list_any t (filter p xs) ≡ list_any (λ x. p x && t x) xs
          → list_any t (if b then x ∷ filter p xs else filter p xs) ≡ ((b && t x) || list_any (λ x. p x && t x) xs)
      go true e = ap (λ c. t x || c) e
      go false e = e

  -- a filter, piece by piece
  pub filter_pieces : (p : X → Bool) (xs : List X) → flat_map (λ x. if p x then x ∷ [] else []) xs ≡ filter p xs
  filter_pieces p [] = refl
  filter_pieces p (x ∷ xs) = flat_map-cons (λ x. if p x then x ∷ [] else []) x xs ∙ go (p x) (filter_pieces p xs)
    where
      go : (b : Bool) → flat_map (λ x. if p x then x ∷ [] else []) xs ≡ filter p xs
          → (if b then x ∷ [] else []) ++ flat_map (λ x. if p x then x ∷ [] else []) xs ≡ (if b then x ∷ filter p xs else filter p xs)
      go true e = ap (λ ys. x ∷ ys) e
      go false e = e

  module _ {Y : Type 0} where
    pub any-map : (t : Y → Bool) (f : X → Y) (xs : List X) → list_any t (map f xs) ≡ list_any (λ x. t (f x)) xs
    any-map t f [] = refl
    any-map t f (x ∷ xs) = ap (λ c. t (f x) || c) (any-map t f xs)

    pub any-flat_map : (t : Y → Bool) (f : X → List Y) (xs : List X) → list_any t (flat_map f xs) ≡ list_any (λ x. list_any t (f x)) xs
    any-flat_map t f [] = refl
    any-flat_map t f (x ∷ xs) =
        ap (list_any t) (flat_map-cons f x xs) ∙ list_any-append t (f x) (flat_map f xs) ∙ ap (λ c. list_any t (f x) || c) (any-flat_map t f xs)

pub any-products : (t : List ℕ → Bool) (a b : Lists) → list_any t (products a b) ≡ list_any (λ l. list_any (λ r. t (l ++ r)) b) a
any-products t a b =
    any-flat_map t (λ l. map (λ r. l ++ r) b) a
    ∙ any_alike (λ l. list_any t (map (λ r. l ++ r) b)) (λ l. list_any (λ r. t (l ++ r)) b) (λ l. any-map t (λ r. l ++ r) b) a

pub any-joins : (t : List ℕ → Bool) (a b : Lists) → list_any t (joins a b) ≡ list_any (λ l. list_any (λ r. list_any t (joined l r)) b) a
any-joins t a b =
    any-flat_map t (λ l. flat_map (joined l) b) a
    ∙ any_alike (λ l. list_any t (flat_map (joined l) b)) (λ l. list_any (λ r. list_any t (joined l r)) b) (λ l. any-flat_map t (joined l) b) a
