-- Lists to which the elements of another are added, one by one.
use Rattle.std.proofs.Common.{◌≡◌, ◌<◌, ◌+◌, ℕ, List, [], ◌∷◌, ◌++◌, map, take, length, get_or, slice_get, Some, sym, ◌∙◌, ap, append_assoc}
use Rattle.std.proofs.lemmas.List.{take_more, map-append}
use Rattle.std.proofs.lemmas.Option.{slice_get_within, get_or_from_slice_get}

module _ {X : Type 0} (xs : List X) (i : ℕ) (x : X) (l : i < length xs) (is : x ≡ get_or xs i x) where
  one_more : take (i + 1) xs ≡ take i xs ++ x ∷ []
  one_more = take_more xs i x l ∙ ap (λ y. take i xs ++ y ∷ []) (sym is)

  -- the elements themselves
  pub added : (base now : List X) → now ≡ base ++ take i xs → now ++ x ∷ [] ≡ base ++ take (i + 1) xs
  added base now e = ap (λ ys. ys ++ x ∷ []) e ∙ append_assoc base (take i xs) (x ∷ []) ∙ ap (λ ys. base ++ ys) (sym one_more)

  -- what a function makes of them
  pub added_of : {Y : Type 0} (f : X → Y) (base now : List Y) → now ≡ base ++ map f (take i xs) → now ++ f x ∷ [] ≡ base ++ map f (take (i + 1) xs)
  added_of f base now e =
      ap (λ ys. ys ++ f x ∷ []) e ∙ append_assoc base (map f (take i xs)) (f x ∷ []) ∙ ap (λ ys. base ++ ys) (sym (ap (map f) one_more ∙ map-append f (take i xs) (x ∷ [])))

pub at_place : {X : Type 0} (xs : List X) (i : ℕ) (x : X) → slice_get xs i ≡ Some x → x ≡ get_or xs i x
at_place xs i x e = sym (get_or_from_slice_get xs i x x e)
