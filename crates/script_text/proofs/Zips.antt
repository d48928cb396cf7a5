-- Two lists, place by place.
use Rattle.std.proofs.Common.{◌≡◌, ◌<◌, ℕ, zero, suc, List, [], ◌∷◌, length, get_or, refl, ap, arith}
use Rattle.std.specs.List.{AllZip}

module _ {X Y : Type 0} (R : X → Y → Type 0) where
  pub zip_long : (xs : List X) (ys : List Y) → AllZip R xs ys → length xs ≡ length ys
  zip_long [] [] all = refl
  zip_long [] (y ∷ ys) all = absurd all
  zip_long (x ∷ xs) [] all = absurd all
  zip_long (x ∷ xs) (y ∷ ys) all = ap suc (zip_long xs ys all.1)

  pub zip_at : (xs : List X) (ys : List Y) (k : ℕ) (d : X) (e : Y) → AllZip R xs ys → k < length xs → R (get_or xs k d) (get_or ys k e)
  zip_at [] ys k d e all l = absurd (omega arith)
  zip_at (x ∷ xs) [] k d e all l = absurd all
  zip_at (x ∷ xs) (y ∷ ys) zero d e all l = all.0
  zip_at (x ∷ xs) (y ∷ ys) (suc k) d e all l = zip_at xs ys k d e all.1 (omega arith)

  pub zip_from : (xs : List X) (ys : List Y) (d : X) (e : Y) → length xs ≡ length ys → ((k : ℕ) → k < length xs → R (get_or xs k d) (get_or ys k e)) → AllZip R xs ys
  zip_from [] [] d e l h = tt
  zip_from [] (y ∷ ys) d e l h = absurd (omega arith)
  zip_from (x ∷ xs) [] d e l h = absurd (omega arith)
  zip_from (x ∷ xs) (y ∷ ys) d e l h = (h 0 (omega arith), zip_from xs ys d e (omega arith) (λ k m. h (suc k) (omega arith)))
