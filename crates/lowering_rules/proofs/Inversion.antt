-- What an answer without a fault says of its parts.
use Rattle.std.proofs.Common.{◌≡◌, ◌⊎◌, inl, inr, ℕ, ◌≤◌, ◌==◌, nat_le, nat_lt, ◌<◌, Bool, true, false, if◌then◌else◌, Result, Ok, Err, refl, ap, arith}
use Rattle.std.proofs.lemmas.Bool.Decides.{nat_tests}
use Rattle.alloy_lex.specs.declared.token.Place.{Place}
use Rattle.named_model.specs.Answers.{◌>>=◌}
use Rattle.model_types.specs.declared.fault.TypeFault.{TypeFault}
use Rattle.model_types.specs.Sorts.{Kind, relation, formula, number, size, unless, as_relation, as_formula}

pub bind_ok : {A B F : Type 0} (r : Result A F) (f : A → Result B F) (b : B) → (r >>= f) ≡ Ok b → (a : A) × (r ≡ Ok a) × (f a ≡ Ok b)
bind_ok (Ok a) f b e = (a, refl, e)
bind_ok (Err x) f b e = absurd cc

abbrev pub fine : {A : Type 0} → A → Result A TypeFault
fine a = Ok a

pub same_ok : {A : Type 0} (a b : A) → fine a ≡ Ok b → a ≡ b
same_ok a b e = cc

pub if_ok : {A : Type 0} (b : Bool) (r s : Result A TypeFault) (a : A) → (if b then r else s) ≡ Ok a → ((b ≡ true) × (r ≡ Ok a)) ⊎ ((b ≡ false) × (s ≡ Ok a))
if_ok true r s a e = inl (refl, e)
if_ok false r s a e = inr (refl, e)

pub arity_inv : (p : Place) (k : Kind) (n : ℕ) → as_relation p k ≡ Ok n → k ≡ relation n
arity_inv p (relation m) n e = ap relation (same_ok m n e)
arity_inv p formula n e = absurd cc
arity_inv p number n e = absurd cc
arity_inv p size n e = absurd cc

pub formula_inv : (p : Place) (k : Kind) (u : Unit {0}) → as_formula p k ≡ Ok u → k ≡ formula
formula_inv p (relation m) u e = absurd cc
formula_inv p formula u e = refl
formula_inv p number u e = absurd cc
formula_inv p size u e = absurd cc

pub unless_inv : (b : Bool) (f : TypeFault) (u : Unit {0}) → unless b f ≡ Ok u → b ≡ true
unless_inv true f u e = refl
unless_inv false f u e = absurd cc

pub eq_test : (m n : ℕ) → (m == n) ≡ true → m ≡ n
eq_test m n e = grind (arith, nat_tests)

pub le_test : (m n : ℕ) → nat_le m n ≡ true → m ≤ n
le_test m n e = grind (arith, nat_tests)

pub lt_test : (m n : ℕ) → nat_lt m n ≡ true → m < n
lt_test m n e = grind (arith, nat_tests)
