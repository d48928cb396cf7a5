-- Places in lists, by tests that agree.
use Rattle.std.proofs.Common.{◌≡◌, ℕ, zero, suc, ◌+◌, ◌<◌, Bool, false, List, [], ◌∷◌, map, length, get_or, Some, None, inl, inr, refl, sym, ◌∙◌, arith}
use Rattle.std.proofs.lemmas.Bool.{cases_Bool}
use Rattle.std.specs.List.{position, position_from}
use Rattle.std.proofs.lemmas.Iterator.Adapters.{position_from-zero}

pub from_agree : {X Y : Type 0} (p : X → Bool) (q : Y → Bool) (f : X → Y) → ((x : X) → p x ≡ q (f x)) → (i : ℕ) (xs : List X) → position_from p i xs ≡ position_from q i (map f xs)
from_agree p q f same i [] = refl
from_agree p q f same i (x ∷ xs) = rw (same x, from_agree p q f same (i + 1) xs) refl

pub position_agree : {X Y : Type 0} (p : X → Bool) (q : Y → Bool) (f : X → Y) → ((x : X) → p x ≡ q (f x)) → (xs : List X) → position p xs ≡ position q (map f xs)
position_agree p q f same xs = position_from-zero p xs ∙ from_agree p q f same 0 xs ∙ sym (position_from-zero q (map f xs))

-- no element passes a test that has no place
pub from_none : {X : Type 0} (p : X → Bool) (i : ℕ) (xs : List X) → position_from p i xs ≡ None → (k : ℕ) (d : X) → k < length xs → p (get_or xs k d) ≡ false
from_none p i [] e k d l = absurd (omega (arith, l))
from_none p i (x ∷ xs) e zero d l =
    elim (cases_Bool (p x)) [
      | inl holds ↦ absurd (some_is_none i (rw holds at e))
      | inr fails ↦ fails
    ]
  where
    some_is_none : (n : ℕ) → Some n ≡ None → ⊥
    some_is_none n h = absurd cc
from_none p i (x ∷ xs) e (suc k) d l =
    elim (cases_Bool (p x)) [
      | inl holds ↦ absurd (some_is_none i (rw holds at e))
      | inr fails ↦ from_none p (i + 1) xs (rw fails at e) k d (omega (arith, l))
    ]
  where
    some_is_none : (n : ℕ) → Some n ≡ None → ⊥
    some_is_none n h = absurd cc

pub none_passes : {X : Type 0} (p : X → Bool) (xs : List X) → position p xs ≡ None → (k : ℕ) (d : X) → k < length xs → p (get_or xs k d) ≡ false
none_passes p xs e = from_none p 0 xs (sym (position_from-zero p xs) ∙ e)
