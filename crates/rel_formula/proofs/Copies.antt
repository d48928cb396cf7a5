-- Loops that make one value for each element of a list.
use Rattle.std.proofs.Common.{◌≡◌, ℕ, ◌+◌, ◌<◌, List, [], ◌∷◌, ◌++◌, map, take, length, get_or, ap, sym, ◌∙◌, add-one}
use Rattle.std.proofs.Math.Seq.{take-suc}
use Rattle.std.proofs.lemmas.List.{map-append}

-- one more
pub map_more : {X Y : Type 0} (f : X → Y) (xs ys : List X) (i : ℕ) (x y : X) → i < length xs → x ≡ get_or xs i x → map f ys ≡ map f (take i xs) → f y ≡ f x → map f (ys ++ y ∷ []) ≡ map f (take (i + 1) xs)
map_more f xs ys i x y l at h e =
    map-append f ys (y ∷ [])
    ∙ ap (λ zs. zs ++ f y ∷ []) h
    ∙ ap (λ z. map f (take i xs) ++ z ∷ []) (e ∙ ap f at)
    ∙ sym (map-append f (take i xs) (get_or xs i x ∷ []))
    ∙ ap (map f) (sym (ap (λ k. take k xs) (add-one i) ∙ take-suc xs i x l))

pub more : {X : Type 0} (xs ys : List X) (i : ℕ) (x y : X) → i < length xs → x ≡ get_or xs i x → ys ≡ take i xs → y ≡ x → ys ++ y ∷ [] ≡ take (i + 1) xs
more xs ys i x y l at h e =
    ap (λ zs. zs ++ y ∷ []) h ∙ ap (λ z. take i xs ++ z ∷ []) (e ∙ at) ∙ sym (ap (λ k. take k xs) (add-one i) ∙ take-suc xs i x l)
