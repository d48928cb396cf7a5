-- What holds of the elements of a list at their places.
use Rattle.std.proofs.Common.{◌≡◌, ◌⊎◌, inl, inr, ℕ, zero, suc, Some, List, [], ◌∷◌, ◌++◌, length, get_or, take, drop, All, refl, sym, ◌∙◌, ap, subst, arith, length-append}
use Rattle.std.proofs.lemmas.List.{take_all, take-append-le}
use Rattle.std.specs.Prelude.{slice_get}
use Rattle.std.proofs.Math.ListN.{get_or-append}
use Rattle.std.proofs.Math.Seq.{get_or-append_seam}
use Rattle.std.proofs.lemmas.Bool.{cases_lt}
use Rattle.explorer_run.specs.declared.seats.Seat.{Seat}
use Rattle.explorer_run.specs.Seats.{EachSeat}

-- none
pub each_none : (P : ℕ → Seat → Type 0) (xs : List Seat) → xs ≡ [] → EachSeat P xs
each_none P xs none k d lt = let long : length xs ≡ 0 = ap (λ (ys : List Seat). length ys) none in absurd (omega arith)

-- one more at the end
pub each_more : (P : ℕ → Seat → Type 0) (xs : List Seat) (x : Seat) → EachSeat P xs → P (length xs) x → EachSeat P (xs ++ x ∷ [])
each_more P xs x each here k d lt = elim (cases_lt k (length xs)) [
  | inl before ↦ subst (P k) (sym (get_or-append xs (x ∷ []) d k before)) (each k d before)
  | inr behind ↦
      let same : length xs ≡ k = omega (arith, length-append xs (x ∷ [])) in
      subst (λ (n : ℕ). P n (get_or (xs ++ x ∷ []) n d)) same (subst (P (length xs)) (sym (get_or-append_seam xs x [] d)) here)
]

-- the element behind a list, and those before it
module _ {X : Type 0} (P : X → Type 0) (xs : List X) (x : X) where
  pub all_before : All P (xs ++ x ∷ []) → All P xs
  all_before all k d lt = subst P (get_or-append xs (x ∷ []) d k lt) (all k d (omega (arith, length-append xs (x ∷ []))))

  pub all_last : All P (xs ++ x ∷ []) → P x
  all_last all = subst P (get_or-append_seam xs x [] x) (all (length xs) x (omega (arith, length-append xs (x ∷ []))))

-- what stands at a place of a list with one more at the end
pub get_before_or_last : {X : Type 0} (xs : List X) (x : X) (k : ℕ) (y : X) → slice_get (xs ++ x ∷ []) k ≡ Some y → (slice_get xs k ≡ Some y) ⊎ ((k ≡ length xs) × (x ≡ y))
get_before_or_last [] x zero y e = inr (refl, cc)
get_before_or_last [] x (suc k) y e = absurd cc
get_before_or_last (z ∷ zs) x zero y e = inl e
get_before_or_last (z ∷ zs) x (suc k) y e = elim (get_before_or_last zs x k y e) [
  | inl before ↦ inl before
  | inr last ↦ inr (ap suc last.0, last.1)
]

-- a list whose elements were written through a slice of all of it
pub written_whole : {X : Type 0} (n : ℕ) (new old : List X) → n ≡ length old → length new ≡ length old → take n (new ++ drop (length new) old) ≡ new
written_whole n new old long same = take-append-le n new (drop (length new) old) (omega (arith, long, same)) ∙ take_all n new (omega (arith, long, same))
