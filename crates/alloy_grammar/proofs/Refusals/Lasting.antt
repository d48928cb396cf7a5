-- Two readings of the same tokens, the second of which goes on where the first stops: it stops nowhere before that token. Where more
-- constructs may nest in the second, nothing lies too deep in both.
use Rattle.std.proofs.Common.{◌≡◌, ◌≤◌, ◌<◌, ℕ, zero, suc, Bool, true, false, if◌then◌else◌, List, [], ◌∷◌, length, Result, Ok, Err, refl, sym, ap, subst, ◌∙◌, arith}
use Rattle.alloy_syntax.specs.declared.class.Class.TheVariants as class
use Rattle.alloy_syntax.specs.declared.parser_token.ParserToken.{ParserToken}
use Rattle.alloy_syntax.specs.Readers.{ParseStopView, Parser, ◌>>=◌, next_is, after, repeated, many, behind, others, listed}
use Rattle.alloy_grammar.proofs.Results.{done_is, no_success}
use Rattle.alloy_grammar.proofs.Refusals.ShallowReadings.{Calm, calm, stop_calm}
use Rattle.alloy_grammar.specs.Faults.Stops.{unread}
use Rattle.alloy_grammar.proofs.Faults.LastTokens.{Among, LeavesLast, Keeps, read, stops, among_then, among_choice, many_lands, behind_lands}

-- ---- what is known of a reading that succeeds

pub among_known : {A B : Type 0} {base : List ParserToken} {P : A → Type 0} {Q : B → Type 0} {a : Result A ParseStopView} {f : A → Result B ParseStopView} → Among base P a → ((x : A) → a ≡ Ok x → P x → Among base Q (f x)) → Among base Q (a >>= f)
among_known {A} {B} {base} {P} {Q} {a} {f} h to =
    elim h [
      | read x e p ↦ subst (λ (c : Result A ParseStopView). Among base Q (c >>= f)) (sym e) (to x e p)
      | stops d e last ↦ stops d (ap (λ (c : Result A ParseStopView). c >>= f) e) last
    ]

pub among_read : {A : Type 0} {base : List ParserToken} {P : A → Type 0} {r : Result A ParseStopView} {x : A} → Among base P r → r ≡ Ok x → P x
among_read {A} {base} {P} {r} {x} h e =
    elim h [
      | read y f p ↦ subst P (done_is y x (sym f ∙ e)) p
      | stops d f last ↦ no_success d x (sym f ∙ e)
    ]

-- ---- the second reading outlasts the first

-- The first stops. Where it is strict, the second stops nowhere before that token; where forms pass in both, it stops behind it, if at
-- all.
abbrev pub Later : {A : Type 0} → Bool → (List ParserToken → A → Type 0) → ParseStopView → Result A ParseStopView → Type 0
Later true P d b = Among (unread d) (P (unread d)) b
Later false P d b = (t : ParserToken) × (us : List ParserToken) × (unread d ≡ t ∷ us) × Among us (P us) b

later_then : {A B : Type 0} {P : List ParserToken → A → Type 0} {Q : List ParserToken → B → Type 0} (strict : Bool) (d : ParseStopView) (b : Result A ParseStopView) {g : A → Result B ParseStopView} → Later strict P d b → ((base : List ParserToken) (x : A) → P base x → Among base (Q base) (g x)) → Later strict Q d (b >>= g)
later_then true d b h lands = among_then h (lands (unread d))
later_then false d b h lands = (h.0, h.1, h.2, among_then h.3 (lands h.1))

-- what the two give alike: nothing too deep, where more constructs may nest in the second at each place
abbrev pub Shallow : {A : Type 0} → Bool → Result A ParseStopView → Type 0
Shallow deeper a = deeper ≡ true → Calm a

-- the two give the same, or the first stops, and the second goes on there
pub data Outlasts {A : Type 0} (strict deeper : Bool) (P : List ParserToken → A → Type 0) (a b : Result A ParseStopView) : Type 0 where
  same : a ≡ b → Shallow deeper a → Outlasts strict deeper P a b
  later : (d : ParseStopView) → a ≡ Err d → Later strict P d b → Outlasts strict deeper P a b

abbrev pub Lasts : {A : Type 0} → Bool → Bool → Result (A × List ParserToken) ParseStopView → Result (A × List ParserToken) ParseStopView → Type 0
Lasts {A} strict deeper a b = Outlasts strict deeper (LeavesLast {A = A}) a b

abbrev pub Lasting : {A : Type 0} → Bool → Bool → Parser A → Parser A → Type 0
Lasting strict deeper p q = (ts : List ParserToken) → Lasts strict deeper (p ts) (q ts)

pub alike : {strict deeper : Bool} {A : Type 0} {P : List ParserToken → A → Type 0} {a : Result A ParseStopView} → Calm a → Outlasts strict deeper P a a
alike h = same refl (λ e. h)

pub both_read : {strict deeper : Bool} {A : Type 0} {P : List ParserToken → A → Type 0} {x : A} → Outlasts strict deeper P (Ok x) (Ok x)
both_read = alike (calm refl)

-- the same is read, and then what follows
then_on : {strict deeper : Bool} {A B : Type 0} {Q : List ParserToken → B → Type 0} (a : Result A ParseStopView) {f g : A → Result B ParseStopView} → Shallow deeper a → ((x : A) → a ≡ Ok x → Outlasts strict deeper Q (f x) (g x)) → Outlasts strict deeper Q (a >>= f) (a >>= g)
then_on (Ok x) h to = to x refl
then_on (Err d) h to = same refl (λ e. stop_calm d (h e))

pub lasts_on_known : {strict deeper : Bool} {A B : Type 0} {Q : List ParserToken → B → Type 0} {a : Result A ParseStopView} {f g : A → Result B ParseStopView} → Calm a → ((x : A) → a ≡ Ok x → Outlasts strict deeper Q (f x) (g x)) → Outlasts strict deeper Q (a >>= f) (a >>= g)
lasts_on_known {strict} {deeper} {A} {B} {Q} {a} h to = then_on a (λ e. h) to

pub lasts_on : {strict deeper : Bool} {A B : Type 0} {Q : List ParserToken → B → Type 0} {a : Result A ParseStopView} {f g : A → Result B ParseStopView} → Calm a → ((x : A) → Outlasts strict deeper Q (f x) (g x)) → Outlasts strict deeper Q (a >>= f) (a >>= g)
lasts_on h to = lasts_on_known h (λ x e. to x)

pub lasts_known : {strict deeper : Bool} {A B : Type 0} {P : List ParserToken → A → Type 0} {Q : List ParserToken → B → Type 0} {a b : Result A ParseStopView} {f g : A → Result B ParseStopView} → Outlasts strict deeper P a b → ((x : A) → b ≡ Ok x → Outlasts strict deeper Q (f x) (g x)) → ((base : List ParserToken) (x : A) → P base x → Among base (Q base) (g x)) → Outlasts strict deeper Q (a >>= f) (b >>= g)
lasts_known {strict} {deeper} {A} {B} {P} {Q} {a} {b} {f} {g} h to lands =
    elim h [
      | same e shallow ↦ subst (λ (c : Result A ParseStopView). Outlasts strict deeper Q (a >>= f) (c >>= g)) e (then_on a shallow (λ x k. to x (sym e ∙ k)))
      | later d e land ↦ later d (ap (λ (c : Result A ParseStopView). c >>= f) e) (later_then strict d b land lands)
    ]

pub lasts_then : {strict deeper : Bool} {A B : Type 0} {P : List ParserToken → A → Type 0} {Q : List ParserToken → B → Type 0} {a b : Result A ParseStopView} {f g : A → Result B ParseStopView} → Outlasts strict deeper P a b → ((x : A) → Outlasts strict deeper Q (f x) (g x)) → ((base : List ParserToken) (x : A) → P base x → Among base (Q base) (g x)) → Outlasts strict deeper Q (a >>= f) (b >>= g)
lasts_then h to lands = lasts_known h (λ x e. to x) lands

pub lasts_choice : {strict deeper : Bool} {A : Type 0} {P : List ParserToken → A → Type 0} (test : Bool) {u v us vs : Result A ParseStopView} → Outlasts strict deeper P u us → Outlasts strict deeper P v vs → Outlasts strict deeper P (if test then u else v) (if test then us else vs)
lasts_choice true p q = p
lasts_choice false p q = q

-- where more constructs may nest: at each place, or not at each
abbrev pub Room : Bool → ℕ → ℕ → Type 0
Room true m n = m < n
Room false m n = m ≤ n

pub less_room : (deeper : Bool) (m n : ℕ) → Room deeper (suc m) (suc n) → Room deeper m n
less_room true m n room = omega (arith, room)
less_room false m n room = omega (arith, room)

pub no_room : {P : Type 0} (deeper : Bool) (m : ℕ) → Room deeper (suc m) zero → P
no_room true m room = absurd (omega (arith, room))
no_room false m room = absurd (omega (arith, room))

-- ---- one after the other

pub repeated_lands : {A : Type 0} (base : List ParserToken) (test : List ParserToken → Bool) (p : Parser A) → Keeps base p → (n : ℕ) → Keeps base (repeated test p n)
unfolding repeated
repeated_lands base test p h zero ts e = read ([], ts) refl e
repeated_lands base test p h (suc n) ts e =
    among_choice (test ts) (among_then (h ts e) (λ x f. among_then (repeated_lands base test p h n x.1 f) (λ xs g. read _ refl g))) (read ([], ts) refl e)

-- where a fact of the tokens is kept, it is enough that the second outlasts the first where the fact holds
module _ {strict deeper : Bool} {A : Type 0} (K : List ParserToken → Type 0) (test : List ParserToken → Bool) (p q : Parser A) (lands : (base : List ParserToken) → Keeps base q) (kept : (ts : List ParserToken) → K ts → (x : A × List ParserToken) → q ts ≡ Ok x → K x.1) (h : (ts : List ParserToken) → K ts → Lasts strict deeper (p ts) (q ts)) where
  repeated_lasts : (n : ℕ) (ts : List ParserToken) → K ts → Lasts strict deeper (repeated test p n ts) (repeated test q n ts)
  unfolding repeated
  repeated_lasts zero ts k = both_read
  repeated_lasts (suc n) ts k =
      lasts_choice (test ts)
      (lasts_known (h ts k) (λ x e. lasts_then (repeated_lasts n x.1 (kept ts k x e)) (λ xs. both_read) (λ base xs f. read _ refl f)) (λ base x e. among_then (repeated_lands base test q (lands base) n x.1 e) (λ xs f. read _ refl f)))
      (both_read)

  pub many_last : (ts : List ParserToken) → K ts → Lasts strict deeper (many test p ts) (many test q ts)
  many_last ts k = repeated_lasts (suc (length ts)) ts k

abbrev Anywhere : List ParserToken → Type 0
Anywhere ts = Unit {0}

pub many_lasts : {strict deeper : Bool} {A : Type 0} (test : List ParserToken → Bool) (p q : Parser A) → ((base : List ParserToken) → Keeps base q) → Lasting strict deeper p q → Lasting strict deeper (many test p) (many test q)
many_lasts test p q lands h ts = many_last Anywhere test p q lands (λ us k x e. tt) (λ us k. h us) ts tt

pub listed_lasts : {strict deeper : Bool} {A : Type 0} (p q : Parser A) → ((base : List ParserToken) → Keeps base q) → Lasting strict deeper p q → Lasting strict deeper (listed p) (listed q)
unfolding listed others
listed_lasts p q lands h ts =
    lasts_then (h ts) (λ x. lasts_then (many_lasts (next_is class.Comma) (behind p) (behind q) (λ base. behind_lands base q (lands base)) (λ us. h (after us)) x.1) (λ xs. both_read) (λ base xs e. read _ refl e))
    (λ base x e. among_then (many_lands base (next_is class.Comma) (behind q) (behind_lands base q (lands base)) x.1 e) (λ xs f. read _ refl f))
