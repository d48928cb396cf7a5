-- Answers one after the other.
use Rattle.std.proofs.Common.{◌≡◌, refl, subst, Result, Ok, Err}
use Rattle.named_model.specs.Answers.{◌>>=◌}

-- what stands behind one answer, before the rest
pub bind_same : {X Y Z F : Type 0} (a b : Result X F) → a ≡ b → (f g : X → Result Y F) (k l : Y → Result Z F) → ((x : X) → (f x >>= k) ≡ (g x >>= l)) → ((a >>= f) >>= k) ≡ ((b >>= g) >>= l)
bind_same {X} {Y} {Z} {F} a b e f g k l h = subst (λ (c : Result X F). ((a >>= f) >>= k) ≡ ((c >>= g) >>= l)) e (go a)
  where
    go : (a : Result X F) → ((a >>= f) >>= k) ≡ ((a >>= g) >>= l)
    go (Ok x) = h x
    go (Err e) = refl

-- a value that is changed, before the rest
pub bind_after : {X Y Z F : Type 0} (a : Result X F) (w : X → Y) (k : Y → Result Z F) → ((a >>= λ x. Ok (w x)) >>= k) ≡ (a >>= λ x. k (w x))
bind_after (Ok x) w k = refl
bind_after (Err e) w k = refl
