-- Lists that a loop has gone over so far.
use Rattle.std.proofs.Common.{◌≡◌, ℕ, ◌+◌, ◌<◌, ◌≤◌, List, [], ◌∷◌, ◌++◌, map, flat_map, length, get_or, take, sym, ap, ◌∙◌, append_assoc, append-nil}
use Rattle.std.proofs.lemmas.List.{map_more, take_more, take_all, map-append}
use Rattle.std.proofs.lemmas.Grind.{flat_map-append}

-- one item more, behind others
pub taken_more : {X Y : Type 0} (f : X → Y) (before : List Y) (xs : List X) (i : ℕ) (x : X) → i < length xs → x ≡ get_or xs i x
    → before ++ map f (take (i + 1) xs) ≡ (before ++ map f (take i xs)) ++ f x ∷ []
taken_more f before xs i x l is =
    ap (λ ys. before ++ ys) (map_more f xs i x l ∙ ap (λ y. map f (take i xs) ++ f y ∷ []) (sym is)) ∙ sym (append_assoc before (map f (take i xs)) (f x ∷ []))

pub items_more : {X : Type 0} (xs : List X) (i : ℕ) (x : X) → i < length xs → x ≡ get_or xs i x → take (i + 1) xs ≡ take i xs ++ x ∷ []
items_more xs i x l is = take_more xs i x l ∙ ap (λ y. take i xs ++ y ∷ []) (sym is)

-- what one item has more, behind others
pub flat_more : {X Y : Type 0} (f : X → List Y) (before : List Y) (xs : List X) (i : ℕ) (x : X) → i < length xs → x ≡ get_or xs i x
    → before ++ flat_map f (take (i + 1) xs) ≡ (before ++ flat_map f (take i xs)) ++ f x
flat_more f before xs i x l is =
    ap (λ ys. before ++ ys) (ap (flat_map f) (items_more xs i x l is) ∙ flat_map-append f (take i xs) (x ∷ []) ∙ ap (λ ys. flat_map f (take i xs) ++ ys) (append-nil (f x)))
    ∙ sym (append_assoc before (flat_map f (take i xs)) (f x))

-- the same over what contracts see of the items
pub seen_more : {X Z Y : Type 0} (v : X → Z) (f : Z → List Y) (before : List Y) (xs : List X) (i : ℕ) (x : X) → i < length xs → x ≡ get_or xs i x
    → before ++ flat_map f (map v (take (i + 1) xs)) ≡ (before ++ flat_map f (map v (take i xs))) ++ f (v x)
seen_more v f before xs i x l is =
    ap (λ ys. before ++ ys)
    (ap (λ ys. flat_map f (map v ys)) (items_more xs i x l is) ∙ ap (flat_map f) (map-append v (take i xs) (x ∷ [])) ∙ flat_map-append f (map v (take i xs)) (v x ∷ []) ∙ ap (λ ys. flat_map f (map v (take i xs)) ++ ys) (append-nil (f (v x))))
    ∙ sym (append_assoc before (flat_map f (map v (take i xs))) (f (v x)))

-- all of them
pub all_taken : {X Y : Type 0} (F : List X → Y) (xs : List X) (i : ℕ) → length xs ≤ i → F (take i xs) ≡ F xs
all_taken F xs i l = ap F (take_all i xs l)
