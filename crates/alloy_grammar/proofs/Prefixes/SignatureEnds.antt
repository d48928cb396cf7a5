-- What reading gives, where a block may stand behind a signature.
use Rattle.std.proofs.Common.{◌≡◌, ℕ, zero, suc, Bool, true, false, if◌then◌else◌, List, [], ◌∷◌, length, Result, Ok, Err, refl, sym, ap, subst}
use Rattle.alloy_syntax.specs.declared.class.Class.TheVariants as class
use Rattle.alloy_syntax.specs.declared.reading.Form.TheVariants as form
use Rattle.alloy_syntax.specs.declared.parser_token.ParserToken.{ParserToken}
use Rattle.alloy_syntax.specs.Readers.{ParseStopView, unsupported, Parser, ◌>>=◌, next_is, repeated, many}
use Rattle.alloy_grammar.specs.Fronts.{Front}
use Rattle.alloy_grammar.proofs.Prefixes.CompletedReadings.{Then, Many, no_more, one_more, Moved, Closing, Gives, gone, ended, close_none, moved_here, moved_then, moved_map, stopped_close, gives_no_more, gives_map, gives_behind, gives_last}

abbrev pub Read : Type 0 → Type 0
Read A = Result (A × List ParserToken) ParseStopView

-- as elsewhere, or a whole text of the second kind was read, and a brace follows
pub data Signs {A : Type 0} (F S : Front) (ts : List ParserToken) (r : Read A) : Type 0 where
  plainly : Gives F ts r → Signs F S ts r
  appended : (us : List ParserToken) → r ≡ Err (unsupported form.Appended us) → Moved S ts us → next_is class.LeftBrace us ≡ true → Signs F S ts r

pub signs_map : {A : Type 0} {F G S T : Front} {ts : List ParserToken} {r : Read A} → ((us vs : List ParserToken) → F us vs → G us vs) → ((us vs : List ParserToken) → S us vs → T us vs) → Signs F S ts r → Signs G T ts r
signs_map {A} {F} {G} {S} {T} {ts} {r} to on h =
    elim h [
      | plainly g ↦ plainly (gives_map to g)
      | appended us e m brace ↦ appended us e (moved_map on m) brace
    ]

pub signs_behind : {A : Type 0} {F G S : Front} {ts us : List ParserToken} {r : Read A} → Moved F ts us → Signs G S us r → Signs (Then F G) (Then F S) ts r
signs_behind {A} {F} {G} {S} {ts} {us} {r} m h =
    elim h [
      | plainly g ↦ plainly (gives_behind m g)
      | appended vs e k brace ↦ appended vs e (moved_then m k) brace
    ]

pub signs_then : {A B : Type 0} {F G S : Front} {ts : List ParserToken} {a : Read A} {f : A × List ParserToken → Read B} → Gives F ts a → Closing G → ((x : A × List ParserToken) → Signs G S x.1 (f x)) → Signs (Then F G) (Then F S) ts (a >>= f)
signs_then {A} {B} {F} {G} {S} {ts} {a} {f} h close to =
    elim h [
      | ended d e s ↦ plainly (ended d (ap (λ (c : Read A). c >>= f) e) (stopped_close s close))
      | gone x e m ↦ subst (λ (c : Read A). Signs (Then F G) (Then F S) ts (c >>= f)) (sym e) (signs_behind m (to x))
    ]

signs_last : {A B : Type 0} {F S : Front} {ts : List ParserToken} {a : Read A} (g : A × List ParserToken → B) → Signs F S ts a → Signs F S ts (a >>= λ x. Ok (g x, x.1))
signs_last {A} {B} {F} {S} {ts} {a} g h =
    elim h [
      | plainly p ↦ plainly (gives_last g p)
      | appended us e m brace ↦ appended us (ap (λ (c : Read A). c >>= λ x. Ok (g x, x.1)) e) m brace
    ]

pub signs_choice : {A : Type 0} {F S : Front} {ts : List ParserToken} (test : Bool) {u v : Read A} → (test ≡ true → Signs F S ts u) → (test ≡ false → Signs F S ts v) → Signs F S ts (if test then u else v)
signs_choice true p q = p refl
signs_choice false p q = q refl

abbrev closed : {A B : Type 0} → (A × List ParserToken → B) → Read A → Read B
closed g a = a >>= λ x. if next_is class.LeftBrace x.1 then Err (unsupported form.Appended x.1) else Ok (g x, x.1)

-- a block may not follow
pub signs_closed : {A B : Type 0} {F : Front} {ts : List ParserToken} {a : Read A} (g : A × List ParserToken → B) → Gives F ts a
    → Signs F F ts (a >>= λ x. if next_is class.LeftBrace x.1 then Err (unsupported form.Appended x.1) else Ok (g x, x.1))
signs_closed {A} {B} {F} {ts} {a} g h =
    elim h [
      | ended d e s ↦ plainly (ended d (ap (λ (c : Read A). closed g c) e) s)
      | gone x e m ↦ subst (λ (c : Read A). Signs F F ts (closed g c)) (sym e) (
          signs_choice (next_is class.LeftBrace x.1) (λ brace. appended x.1 refl m brace) (λ _. plainly (gone (g x, x.1) refl m)))
    ]

-- one more of several, the last of which is of the second kind
one_then : (F S : Front) (ts rest : List ParserToken) → Then F (Then (Many F) S) ts rest → Then (Many F) S ts rest
one_then F S ts rest t = record { middle = t.second.middle; first = one_more t.middle t.first t.second.first; second = t.second.second }

repeated_signs : {A : Type 0} {F S : Front} (test : List ParserToken → Bool) (p : Parser A) → ((us : List ParserToken) → test us ≡ true → Signs F S us (p us)) → (n : ℕ) (ts : List ParserToken) → Signs (Many F) (Then (Many F) S) ts (repeated test p n ts)
unfolding repeated
repeated_signs {A} {F} {S} test p h zero ts = plainly (gives_no_more F [] ts)
repeated_signs {A} {F} {S} test p h (suc n) ts =
    signs_choice (test ts)
    (λ is. elim (h ts is) [
      | appended us e m brace ↦ appended us (ap (λ (c : Read A). c >>= λ x. repeated test p n x.1 >>= λ xs. Ok (x.0 ∷ xs.0, xs.1)) e) (moved_then (moved_here (λ vs. no_more refl) ts) m) brace
      | plainly g ↦ signs_map (λ us vs t. one_more t.middle t.first t.second) (one_then F S) (signs_then g (close_none F) (λ x. signs_last _ (repeated_signs test p h n x.1)))
    ])
    (λ _. plainly (gives_no_more F [] ts))

pub signs_many : {A : Type 0} {F S : Front} (test : List ParserToken → Bool) (p : Parser A) → ((us : List ParserToken) → test us ≡ true → Signs F S us (p us)) → (ts : List ParserToken) → Signs (Many F) (Then (Many F) S) ts (many test p ts)
signs_many test p h ts = repeated_signs test p h (suc (length ts)) ts
