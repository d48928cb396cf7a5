-- Lists that grow at the end.
use Rattle.std.proofs.Common.{◌≡◌, ℕ, ◌+◌, ◌<◌, List, [], ◌∷◌, ◌++◌, map, take, length, get_or, flat_map, ap, sym, ◌∙◌, add-one, append_assoc}
use Rattle.std.proofs.Math.Seq.{take-suc}
use Rattle.std.proofs.lemmas.Grind.{flat_map-append}
use Rattle.std.proofs.lemmas.List.{append-nil, map-append}

pub mapped_more : {X Y : Type 0} (f : X → Y) (xs ys : List X) (x : X) → ys ≡ xs ++ x ∷ [] → map f ys ≡ map f xs ++ f x ∷ []
mapped_more f xs ys x e = ap (map f) e ∙ map-append f xs (x ∷ [])

pub both_more : {X Y : Type 0} (f : X → Y) (g : Y → Y) (xs ys zs : List X) (x y : X) → zs ≡ ys ++ y ∷ [] → map f ys ≡ map g (map f xs) → f y ≡ g (f x) → map f zs ≡ map g (map f (xs ++ x ∷ []))
both_more f g xs ys zs x y made h e =
    ap (map f) made
    ∙ map-append f ys (y ∷ [])
    ∙ ap (λ us. us ++ f y ∷ []) h
    ∙ ap (λ u. map g (map f xs) ++ u ∷ []) e
    ∙ sym (ap (map g) (map-append f xs (x ∷ [])) ∙ map-append g (map f xs) (f x ∷ []))

-- the last element by what it is
pub one_more : {X : Type 0} (t u : List X) (a b : X) → u ≡ t ++ a ∷ [] → a ≡ b → u ≡ t ++ b ∷ []
one_more t u a b e f = e ∙ ap (λ c. t ++ c ∷ []) f

pub two_more : {X : Type 0} (t u v : List X) (a b : X) → u ≡ t ++ a ∷ [] → v ≡ u ++ b ∷ [] → v ≡ t ++ a ∷ b ∷ []
two_more t u v a b e f = f ∙ ap (λ w. w ++ b ∷ []) e ∙ append_assoc t (a ∷ []) (b ∷ [])

pub four_more : {X : Type 0} (t u v w z : List X) (a b c d : X) → u ≡ t ++ a ∷ [] → v ≡ u ++ b ∷ [] → w ≡ v ++ c ∷ [] → z ≡ w ++ d ∷ [] → z ≡ t ++ a ∷ b ∷ c ∷ d ∷ []
four_more t u v w z a b c d e f g h =
    h ∙ ap (λ y. y ++ d ∷ []) (g ∙ ap (λ y. y ++ c ∷ []) (two_more t u v a b e f) ∙ append_assoc t (a ∷ b ∷ []) (c ∷ [])) ∙ append_assoc t (a ∷ b ∷ c ∷ []) (d ∷ [])

pub two_parts : {X : Type 0} (t u v xs ys : List X) → u ≡ t ++ xs → v ≡ u ++ ys → v ≡ t ++ (xs ++ ys)
two_parts t u v xs ys e f = f ∙ ap (λ w. w ++ ys) e ∙ append_assoc t xs ys

pub three_parts : {X : Type 0} (t u v w xs ys zs : List X) → u ≡ t ++ xs → v ≡ u ++ ys → w ≡ v ++ zs → w ≡ t ++ ((xs ++ ys) ++ zs)
three_parts t u v w xs ys zs e f g = two_parts t v w (xs ++ ys) zs (two_parts t u v xs ys e f) g

-- what a loop has made of the elements up to this one
pub part_more : {X Y : Type 0} (f : X → List Y) (xs : List X) (t u v : List Y) (i : ℕ) (x : X) → i < length xs → x ≡ get_or xs i x → u ≡ t ++ flat_map f (take i xs) → v ≡ u ++ f x → v ≡ t ++ flat_map f (take (i + 1) xs)
part_more f xs t u v i x l at e g =
    two_parts t u v (flat_map f (take i xs)) (f x) e g
    ∙ ap (λ ys. t ++ (flat_map f (take i xs) ++ ys)) (sym (append-nil (f x)) ∙ ap (λ z. flat_map f (z ∷ [])) at)
    ∙ ap (λ ys. t ++ ys) (sym (flat_map-append f (take i xs) (get_or xs i x ∷ [])))
    ∙ ap (λ ys. t ++ flat_map f ys) (sym (ap (λ k. take k xs) (add-one i) ∙ take-suc xs i x l))
