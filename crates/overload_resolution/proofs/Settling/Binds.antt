-- Answers in sequence.
use Rattle.std.proofs.Common.{◌≡◌, Result, Ok, Err, refl, ap, ◌∙◌}
use Rattle.named_model.specs.Answers.{◌>>=◌}

-- what follows is the same
pub then_same : {A B F : Type 0} (r : Result A F) (f g : A → Result B F) → ((x : A) → f x ≡ g x) → (r >>= f) ≡ (r >>= g)
then_same (Ok x) f g h = h x
then_same (Err e) f g h = refl

-- what comes first and what follows are the same
pub both_same : {A B F : Type 0} (r s : Result A F) (f g : A → Result B F) → r ≡ s → ((x : A) → f x ≡ g x) → (r >>= f) ≡ (s >>= g)
both_same r s f g e h = ap (λ q. q >>= f) e ∙ then_same s f g h

pub then_then : {A B C F : Type 0} (r : Result A F) (f : A → Result B F) (g : B → Result C F) → ((r >>= f) >>= g) ≡ (r >>= λ x. f x >>= g)
then_then (Ok x) f g = refl
then_then (Err e) f g = refl
