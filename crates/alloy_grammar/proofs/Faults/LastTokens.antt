-- What is read leaves the last of the tokens, and reading stops before the last of them.
use Rattle.std.proofs.Common.{◌≡◌, ℕ, zero, suc, Bool, true, false, if◌then◌else◌, List, [], ◌∷◌, ◌++◌, length, Result, Ok, Err, refl, sym, ap, subst, ◌∙◌, append_assoc}
use Rattle.alloy_syntax.specs.declared.class.Class.{Class}
use Rattle.alloy_syntax.specs.declared.class.Class.TheVariants as class
use Rattle.alloy_syntax.specs.declared.parser_token.ParserToken.{ParserToken}
use Rattle.alloy_syntax.specs.Class.{is_class}
use Rattle.alloy_syntax.specs.Readers.{ParseStopView, refused, Parser, ◌>>=◌, next_is, after, one, expect, spelled_at, number_at, is_mark, after_mark, repeated, many, behind, others, listed, names_at}
use Rattle.alloy_grammar.specs.Faults.Stops.{unread, AreLast}

-- what is read is so, and a stop stands among the tokens
pub data Among {A : Type 0} (base : List ParserToken) (P : A → Type 0) (r : Result A ParseStopView) : Type 0 where
  read : (x : A) → r ≡ Ok x → P x → Among base P r
  stops : (d : ParseStopView) → r ≡ Err d → AreLast base (unread d) → Among base P r

-- the tokens behind what was read are the last of those
abbrev pub LeavesLast : {A : Type 0} → List ParserToken → A × List ParserToken → Type 0
LeavesLast base x = AreLast base x.1

abbrev pub Lands : {A : Type 0} → List ParserToken → Result (A × List ParserToken) ParseStopView → Type 0
Lands {A} base r = Among base (LeavesLast {A = A} base) r

abbrev pub Keeps : {A : Type 0} → List ParserToken → Parser A → Type 0
Keeps base p = (ts : List ParserToken) → AreLast base ts → Lands base (p ts)

pub all_last : (ts : List ParserToken) → AreLast ts ts
all_last ts = ([], refl)

pub after_last : (base ts : List ParserToken) → AreLast base ts → AreLast base (after ts)
after_last base [] e = e
after_last base (t ∷ ts) e = (e.0 ++ (t ∷ []), e.1 ∙ sym (append_assoc e.0 (t ∷ []) ts))

pub choice_last : (base : List ParserToken) (test : Bool) (us vs : List ParserToken) → AreLast base us → AreLast base vs → AreLast base (if test then us else vs)
choice_last base true us vs e f = e
choice_last base false us vs e f = f

pub after_mark_last : (base ts : List ParserToken) → AreLast base ts → AreLast base (after_mark ts)
unfolding after_mark
after_mark_last base ts e = choice_last base (is_mark ts) (after ts) ts (after_last base ts e) e

pub among_then : {A B : Type 0} {base : List ParserToken} {P : A → Type 0} {Q : B → Type 0} {a : Result A ParseStopView} {f : A → Result B ParseStopView} → Among base P a → ((x : A) → P x → Among base Q (f x)) → Among base Q (a >>= f)
among_then {A} {B} {base} {P} {Q} {a} {f} h to =
    elim h [
      | read x e p ↦ subst (λ (c : Result A ParseStopView). Among base Q (c >>= f)) (sym e) (to x p)
      | stops d e last ↦ stops d (ap (λ (c : Result A ParseStopView). c >>= f) e) last
    ]

pub among_choice : {A : Type 0} {base : List ParserToken} {P : A → Type 0} (test : Bool) {u v : Result A ParseStopView} → Among base P u → Among base P v → Among base P (if test then u else v)
among_choice true p q = p
among_choice false p q = q

-- ---- one token

pub one_lands : {A : Type 0} (base : List ParserToken) (c : Class) (f : ParserToken → A) → Keeps base (one c f)
one_lands base c f [] e = stops (refused []) refl e
one_lands base c f (t ∷ ts) e = among_choice (is_class t.class c) (read (f t, ts) refl (after_last base (t ∷ ts) e)) (stops (refused (t ∷ ts)) refl e)

pub expect_lands : (base : List ParserToken) (c : Class) → Keeps base (expect c)
unfolding expect
expect_lands base c = one_lands base c (λ t. t.place)

pub spelled_lands : (base : List ParserToken) (c : Class) → Keeps base (spelled_at c)
unfolding spelled_at
spelled_lands base c = one_lands base c (λ t. record { text = t.text; place = t.place })

pub number_lands : (base : List ParserToken) → Keeps base number_at
unfolding number_at
number_lands base = one_lands base class.Number _

-- ---- one after the other

repeated_lands : {A : Type 0} (base : List ParserToken) (test : List ParserToken → Bool) (p : Parser A) → Keeps base p → (n : ℕ) → Keeps base (repeated test p n)
unfolding repeated
repeated_lands base test p h zero ts e = read ([], ts) refl e
repeated_lands base test p h (suc n) ts e =
    among_choice (test ts) (among_then (h ts e) (λ x f. among_then (repeated_lands base test p h n x.1 f) (λ xs g. read _ refl g))) (read ([], ts) refl e)

pub many_lands : {A : Type 0} (base : List ParserToken) (test : List ParserToken → Bool) (p : Parser A) → Keeps base p → Keeps base (many test p)
many_lands base test p h ts = repeated_lands base test p h (suc (length ts)) ts

pub behind_lands : {A : Type 0} (base : List ParserToken) (p : Parser A) → Keeps base p → Keeps base (behind p)
behind_lands base p h ts e = h (after ts) (after_last base ts e)

pub listed_lands : {A : Type 0} (base : List ParserToken) (p : Parser A) → Keeps base p → Keeps base (listed p)
unfolding listed others
listed_lands base p h ts e = among_then (h ts e) (λ x f. among_then (many_lands base (next_is class.Comma) (behind p) (behind_lands base p h) x.1 f) (λ xs g. read _ refl g))

pub names_land : (base : List ParserToken) → Keeps base names_at
unfolding names_at
names_land base = listed_lands base (spelled_at class.Name) (spelled_lands base class.Name)
