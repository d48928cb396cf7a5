-- Lists of types, each the same as the other list's.
use Rattle.std.proofs.Common.{◌≡◌, ℕ, zero, suc, ◌+◌, ◌<◌, ◌≤◌, List, [], ◌∷◌, ◌++◌, length, drop, reverse, get_or, refl, sym, ap, ◌∙◌, subst, slice_index_or}
use Rattle.std.proofs.lemmas.List.{reverse-append, drop_more, drop_all}
use Rattle.model_types.specs.Bounding.{Lists}
use Rattle.model_types.specs.Bounds.Same.{AreSame}
use Rattle.overload_resolution.specs.Expressions.Types.{AreEachSame}

pub each_refl : (xs : List Lists) → AreEachSame xs xs
each_refl [] = tt
each_refl (x ∷ xs) = (λ t. refl, each_refl xs)

pub each_at : (xs ys : List Lists) (i : ℕ) → AreEachSame xs ys → AreSame (slice_index_or xs i []) (slice_index_or ys i [])
each_at [] [] i h = λ t. refl
each_at [] (y ∷ ys) i h = absurd h
each_at (x ∷ xs) [] i h = absurd h
each_at (x ∷ xs) (y ∷ ys) zero h = h.0
each_at (x ∷ xs) (y ∷ ys) (suc i) h = each_at xs ys i h.1

pub each_append : (ks ls xs ys : List Lists) → AreEachSame ks xs → AreEachSame ls ys → AreEachSame (ks ++ ls) (xs ++ ys)
each_append [] ls [] ys h k = k
each_append [] ls (x ∷ xs) ys h k = absurd h
each_append (z ∷ ks) ls [] ys h k = absurd h
each_append (z ∷ ks) ls (x ∷ xs) ys h k = (h.0, each_append ks ls xs ys h.1 k)

pub each_reverse : (xs ys : List Lists) → AreEachSame xs ys → AreEachSame (reverse xs) (reverse ys)
each_reverse [] [] h = tt
each_reverse [] (y ∷ ys) h = absurd h
each_reverse (x ∷ xs) [] h = absurd h
each_reverse (x ∷ xs) (y ∷ ys) h =
    subst (λ (zs : List Lists). AreEachSame zs (reverse (y ∷ ys))) (sym (reverse-append (x ∷ []) xs))
    (subst (λ (zs : List Lists). AreEachSame (reverse xs ++ x ∷ []) zs) (sym (reverse-append (y ∷ []) ys))
    (each_append (reverse xs) (x ∷ []) (reverse ys) (y ∷ []) (each_reverse xs ys h.1) (h.0, tt)))

-- the first of those that are left
pub each_first : (xs zs : List Lists) (i : ℕ) (x : Lists) → i < length xs → x ≡ get_or xs i x → AreEachSame (drop i xs) zs
    → (z : Lists) × (rest : List Lists) × (zs ≡ z ∷ rest) × AreSame x z × AreEachSame (drop (i + 1) xs) rest
each_first xs zs i x l is h = parts zs (subst (λ (ys : List Lists). AreEachSame ys zs) (drop_more xs i x l ∙ ap (λ (y : Lists). y ∷ drop (i + 1) xs) (sym is)) h)
  where
    parts : (zs : List Lists) → AreEachSame (x ∷ drop (i + 1) xs) zs → (z : Lists) × (rest : List Lists) × (zs ≡ z ∷ rest) × AreSame x z × AreEachSame (drop (i + 1) xs) rest
    parts [] k = absurd k
    parts (z ∷ rest) k = (z, rest, refl, k.0, k.1)

-- none is left
pub each_none : (xs zs : List Lists) (i : ℕ) → length xs ≤ i → AreEachSame (drop i xs) zs → zs ≡ []
each_none xs zs i l h = none zs (subst (λ (ys : List Lists). AreEachSame ys zs) (drop_all i xs l) h)
  where
    none : (zs : List Lists) → AreEachSame [] zs → zs ≡ []
    none [] k = refl
    none (z ∷ zs) k = absurd k
