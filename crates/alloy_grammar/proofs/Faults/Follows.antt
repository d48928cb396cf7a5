-- Two readings of the same tokens, the second of which may go on where the first lies too deep, or has a form that is refused.
use Rattle.std.proofs.Common.{◌≡◌, ◌⊎◌, inl, inr, ℕ, zero, suc, Bool, true, false, IsTrue, ◌≤◌, ◌&&◌, if◌then◌else◌, List, length, Result, Ok, Err, refl, ap, subst, arith}
use Rattle.alloy_syntax.specs.declared.parser_token.ParserToken.{ParserToken}
use Rattle.alloy_syntax.specs.declared.class.Class.TheVariants as class
use Rattle.alloy_syntax.specs.Readers.{ParseStopView, refused, too_deep, unsupported, Parser, ◌>>=◌, next_is, repeated, many, behind, after, others, listed}

-- where the second reading may differ: at a depth, at a form
abbrev pub excuses : Bool → Bool → ParseStopView → Bool
excuses deep forms (refused rest) = false
excuses deep forms (too_deep rest) = deep
excuses deep forms (unsupported f rest) = forms

pub data Follows {A : Type 0} (deep forms : Bool) (a b : Result A ParseStopView) : Type 0 where
  same : a ≡ b → Follows deep forms a b
  excused : (d : ParseStopView) → a ≡ Err d → IsTrue (excuses deep forms d) → Follows deep forms a b

-- the second reading is as strict, or isn't, where forms may pass
pub data Relaxed (forms s t : Bool) : Type 0 where
  as_strict : s ≡ t → Relaxed forms s t
  relaxed : s ≡ true → t ≡ false → IsTrue forms → Relaxed forms s t

pub and_relaxed : (forms s t b : Bool) → Relaxed forms s t → Relaxed forms (s && b) (t && b)
and_relaxed forms s t b (as_strict e) = as_strict (ap (λ (x : Bool). x && b) e)
and_relaxed forms s t true (relaxed e f g) = relaxed (rw e refl) (rw f refl) g
and_relaxed forms s t false (relaxed e f g) = as_strict (rw (e, f) refl)

-- the second reading has as much room, or more, where it may differ at a depth
abbrev pub Roomier : Bool → ℕ → ℕ → Type 0
Roomier deep m n = (m ≤ n) × (IsTrue deep ⊎ (m ≡ n))

pub less_room : (deep : Bool) (m n : ℕ) → Roomier deep (suc m) (suc n) → Roomier deep m n
less_room deep m n room = (omega (arith, room.0), elim room.1 [ inl d ↦ inl d | inr e ↦ inr (omega (arith, e)) ])

-- the same is read, and then what follows
pub onward : {A B : Type 0} {deep forms : Bool} (a : Result A ParseStopView) {f g : A → Result B ParseStopView} → ((x : A) → Follows deep forms (f x) (g x)) → Follows deep forms (a >>= f) (a >>= g)
onward (Ok x) to = to x
onward (Err d) to = same refl

pub bind : {A B : Type 0} {deep forms : Bool} {a b : Result A ParseStopView} {f g : A → Result B ParseStopView} → Follows deep forms a b → ((x : A) → Follows deep forms (f x) (g x)) → Follows deep forms (a >>= f) (b >>= g)
bind {A} {B} {deep} {forms} {a} {b} {f} {g} h to =
    elim h [
      | same e ↦ subst (λ (c : Result A ParseStopView). Follows deep forms (a >>= f) (c >>= g)) e (onward a to)
      | excused d is t ↦ excused d (ap (λ (c : Result A ParseStopView). c >>= f) is) t
    ]

pub choice : {A : Type 0} {deep forms : Bool} (test : Bool) {u v us vs : Result A ParseStopView} → Follows deep forms u us → Follows deep forms v vs → Follows deep forms (if test then u else v) (if test then us else vs)
choice true p q = p
choice false p q = q

-- one after the other
pub repeated_follows : {A : Type 0} {deep forms : Bool} (test : List ParserToken → Bool) (p q : Parser A) → ((ts : List ParserToken) → Follows deep forms (p ts) (q ts)) → (n : ℕ) (ts : List ParserToken) → Follows deep forms (repeated test p n ts) (repeated test q n ts)
unfolding repeated
repeated_follows test p q h zero ts = same refl
repeated_follows test p q h (suc n) ts = choice (test ts) (bind (h ts) (λ x. bind (repeated_follows test p q h n x.1) (λ xs. same refl))) (same refl)

pub many_follows : {A : Type 0} {deep forms : Bool} (test : List ParserToken → Bool) (p q : Parser A) → ((ts : List ParserToken) → Follows deep forms (p ts) (q ts)) → (ts : List ParserToken) → Follows deep forms (many test p ts) (many test q ts)
many_follows test p q h ts = repeated_follows test p q h (suc (length ts)) ts

pub listed_follows : {A : Type 0} {deep forms : Bool} (p q : Parser A) → ((ts : List ParserToken) → Follows deep forms (p ts) (q ts)) → (ts : List ParserToken) → Follows deep forms (listed p ts) (listed q ts)
unfolding listed others
listed_follows p q h ts = bind (h ts) (λ x. bind (many_follows (next_is class.Comma) (behind p) (behind q) (λ us. h (after us)) x.1) (λ xs. same refl))
