-- A change at a place of a list.
use Rattle.std.proofs.Common.{◌≡◌, ◌<◌, ℕ, zero, suc, List, [], ◌∷◌, length, get_or, slice_set, refl, ap, arith}
use Rattle.script_format.specs.Reading.{changed}

pub changed_is_set : {X : Type 0} (f : X → X) (k : ℕ) (xs : List X) (d : X) → k < length xs → slice_set xs k (f (get_or xs k d)) ≡ changed f k xs
changed_is_set f k [] d l = absurd (omega arith)
changed_is_set f zero (x ∷ xs) d l = refl
changed_is_set f (suc k) (x ∷ xs) d l = ap (λ ys. x ∷ ys) (changed_is_set f k xs d (omega arith))
