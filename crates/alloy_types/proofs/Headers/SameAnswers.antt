-- Answers that are one and the same, with what holds of their value.
use Rattle.std.proofs.Common.{◌≡◌, refl, subst, Bool, true, false, if◌then◌else◌, Result, Ok, Err, IfOk}
use Rattle.named_model.specs.Answers.{◌>>=◌}

pub record Alike {X F : Type 0} (P : X → Type 0) (a b : Result X F) : Type 0 where
  pub same : a ≡ b
  pub holds : IfOk a P

-- nothing is said of the value
abbrev pub Any : {X : Type 0} → X → Type 0
Any x = Unit {0}

pub alike_ok : {X F : Type 0} (P : X → Type 0) (x : X) → P x → Alike {X = X} {F = F} P (Ok x) (Ok x)
alike_ok P x h = record { same = refl; holds = h }

pub alike_any : {X F : Type 0} (a : Result X F) → Alike {X = X} {F = F} Any a a
alike_any (Ok x) = record { same = refl; holds = tt }
alike_any (Err e) = record { same = refl; holds = tt }

pub alike_path : {X F : Type 0} (a b : Result X F) → a ≡ b → Alike {X = X} {F = F} Any a b
alike_path {X} {F} a b e = subst (λ (c : Result X F). Alike Any a c) e (alike_any a)

pub alike_then : {X Y F : Type 0} (P : X → Type 0) (Q : Y → Type 0) (a b : Result X F) (k l : X → Result Y F)
    → Alike P a b → ((x : X) → P x → Alike Q (k x) (l x)) → Alike Q (a >>= k) (b >>= l)
alike_then {X} {Y} {F} P Q (Ok x) b k l h f = subst (λ (c : Result X F). Alike Q (k x) (c >>= l)) h.same (f x h.holds)
alike_then {X} {Y} {F} P Q (Err e) b k l h f = subst (λ (c : Result X F). Alike {X = Y} {F = F} Q (Err e) (c >>= l)) h.same (record { same = refl; holds = tt })

pub alike_if : {X F : Type 0} (P : X → Type 0) (test : Bool) (a b c d : Result X F) → Alike P a b → Alike P c d → Alike P (if test then a else c) (if test then b else d)
alike_if P true a b c d h k = h
alike_if P false a b c d h k = k
