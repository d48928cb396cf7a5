-- The tokens of a text are what it reads as.
use Rattle.std.proofs.Common.{◌≡◌, ℕ, zero, suc, ◌+◌, ◌<◌, List, [], ◌∷◌, ◌++◌, length, take, drop, Some, None, option_to_list, Result, Ok, Err, refl, sym, ap, subst, ◌∙◌, append_assoc, arith}
use Rattle.std.proofs.lemmas.List.{take-append-drop, length-append, append-nil}
use Rattle.alloy_lex.specs.declared.token.Place.{Place}
use Rattle.alloy_lex.specs.declared.token.Token.{Token}
use Rattle.alloy_lex.specs.declared.token.LexFault.{LexFault}
use Rattle.alloy_lex.specs.declared.front.Front.{Front}
use Rattle.alloy_lex.specs.declared.front.Front.TheVariants as front
use Rattle.alloy_lex.specs.declared.lexing.Spot.{Spot}
use Rattle.alloy_lex.specs.Fronts.{front_of}
use Rattle.alloy_lex.specs.Tokens.{Step, ◌>>=◌, after_byte, after_bytes, passed, token_at, step_at, step_of, tokens_from, origin, tokens_of}
use Rattle.alloy_lex.specs.Reading.{Separates, nothing, IsNext, Reads}
use Rattle.alloy_lex.proofs.FrontTexts.{Precedes, FrontIs, HasSome, front_fits}

-- ---- answers

bind_ok : {A B : Type 0} (r : Result A LexFault) (f : A → Result B LexFault) (y : B) → (r >>= f) ≡ Ok y → (x : A) × (r ≡ Ok x) × (f x ≡ Ok y)
bind_ok (Ok x) f y e = (x, refl, e)
bind_ok (Err d) f y e = absurd cc

abbrev done : {A : Type 0} → A → Result A LexFault
done x = Ok x

done_is : {A : Type 0} (x y : A) → done x ≡ done y → x ≡ y
done_is x y e = cc

abbrev fail : {A : Type 0} → LexFault → Result A LexFault
fail f = Err f

not_done : {A : Type 0} (f : LexFault) (x : A) → fail f ≡ done x → ⊥
not_done f x e = cc

-- ---- spots

pub after_append : (p : Place) (xs ys : List ℕ) → after_bytes (after_bytes p xs) ys ≡ after_bytes p (xs ++ ys)
unfolding after_bytes
after_append p [] ys = refl
after_append p (x ∷ xs) ys = after_append (after_byte p x) xs ys

abbrev spot : ℕ → Place → Spot
spot start place = record { start = start; place = place }

spots : (m n : ℕ) (p q : Place) → m ≡ n → p ≡ q → spot m p ≡ spot n q
spots m n p q e d = cc

pub passed_append : (at : Spot) (xs ys : List ℕ) → passed (passed at xs) ys ≡ passed at (xs ++ ys)
passed_append at xs ys =
    let l = length-append xs ys in
    spots (at.start + length xs + length ys) (at.start + length (xs ++ ys)) (after_bytes (after_bytes at.place xs) ys) (after_bytes at.place (xs ++ ys)) (omega arith) (after_append at.place xs ys)

pub after_none : (p : Place) → p ≡ after_bytes p []
unfolding after_bytes
after_none p = refl

pub passed_none : (at : Spot) → passed at [] ≡ at
unfolding after_bytes
passed_none at = spots (at.start + 0) at.start at.place at.place (omega arith) refl

-- ---- a separator before a reading

pub next_behind : (at : Spot) (piece rest text gap after : List ℕ) (t : Token) → text ≡ piece ++ rest → Precedes piece rest → IsNext (passed at piece) rest gap after t → IsNext at text (piece ++ gap) after t
next_behind at piece rest text gap after t whole before next =
    let l = length-append piece gap in
    record {
      whole = whole ∙ ap (λ (xs : List ℕ). piece ++ xs) next.whole ∙ sym (append_assoc piece gap (t.text ++ after));
      separated = before gap (t.text ++ after) (sym next.whole) next.separated;
      longest = next.longest;
      start = let s = next.start in omega arith;
      place = next.place ∙ after_append at.place piece gap;
    }

behind : (ts : List Token) (at : Spot) (piece rest text : List ℕ) → text ≡ piece ++ rest → Precedes piece rest → Reads (passed at piece) rest ts → Reads at text ts
behind [] at piece rest text whole before reads = subst (λ (xs : List ℕ). Separates xs []) (sym whole) (before rest [] (append-nil rest) reads)
behind (t ∷ ts) at piece rest text whole before reads =
    (piece ++ reads.0, reads.1, next_behind at piece rest text reads.0 reads.1 t whole before reads.2, subst (λ s. Reads (passed s t.text) reads.1 ts) (passed_append at piece reads.0) reads.3)

-- ---- a step before a reading

step_reads : (f : Front) (at : Spot) (bs : List ℕ) (x : Step) (us : List Token) → FrontIs f bs → step_at f at bs ≡ Ok x → Reads x.1 x.2 us → Reads at bs (option_to_list x.0 ++ us)
step_reads (front.Blank n) at bs x us is e reads =
    let x_is = done_is (None, passed at (take n bs), drop n bs) x e in
    subst (λ (y : Step). Reads y.1 y.2 us → Reads at bs (option_to_list y.0 ++ us)) x_is (λ reads. behind us at (take n bs) (drop n bs) bs (sym (take-append-drop n bs)) is.1 reads) reads
step_reads (front.Token k n) at bs x us is e reads =
    let x_is = done_is (Some (token_at k at (take n bs)), passed at (take n bs), drop n bs) x e in
    subst (λ (y : Step). Reads y.1 y.2 us → Reads at bs (option_to_list y.0 ++ us)) x_is (λ reads. (
      [],
      drop n bs,
      record {
        whole = sym (take-append-drop n bs);
        separated = nothing;
        longest = is.1;
        start = omega arith;
        place = after_none at.place;
      },
      subst (λ s. Reads (passed s (take n bs)) (drop n bs) us) (sym (passed_none at)) reads,
    )) reads
step_reads front.BadCharacter at bs x us is e reads = absurd (not_done _ x e)
step_reads front.OpenComment at bs x us is e reads = absurd (not_done _ x e)
step_reads front.NumberTooLarge at bs x us is e reads = absurd (not_done _ x e)

shorter_of : (n : ℕ) (bs : List ℕ) → HasSome n bs → length (drop n bs) < length bs
shorter_of n bs has = let l = ap (λ (xs : List ℕ). length xs) (take-append-drop n bs) in let m = length-append (take n bs) (drop n bs) in omega arith

step_shorter : (f : Front) (at : Spot) (bs : List ℕ) (x : Step) → FrontIs f bs → step_at f at bs ≡ Ok x → length x.2 < length bs
step_shorter (front.Blank n) at bs x is e = subst (λ (y : Step). length y.2 < length bs) (done_is (None, passed at (take n bs), drop n bs) x e) (shorter_of n bs is.0)
step_shorter (front.Token k n) at bs x is e = subst (λ (y : Step). length y.2 < length bs) (done_is (Some (token_at k at (take n bs)), passed at (take n bs), drop n bs) x e) (shorter_of n bs is.0)
step_shorter front.BadCharacter at bs x is e = absurd (not_done _ x e)
step_shorter front.OpenComment at bs x is e = absurd (not_done _ x e)
step_shorter front.NumberTooLarge at bs x is e = absurd (not_done _ x e)

-- ---- readings

reads_from : (n : ℕ) (at : Spot) (bs : List ℕ) (ts : List Token) → length bs < n → tokens_from n at bs ≡ Ok ts → Reads at bs ts
unfolding tokens_from step_of
reads_from zero at bs ts enough e = absurd (omega arith)
reads_from (suc n) at [] ts enough e = subst (λ us. Reads at [] us) (done_is [] ts e) nothing
reads_from (suc n) at (b ∷ bs) ts enough e =
    let x = bind_ok (step_of at (b ∷ bs)) (λ s. tokens_from n s.1 s.2 >>= λ us. Ok (option_to_list s.0 ++ us)) ts e in
    let us = bind_ok (tokens_from n x.0.1 x.0.2) (λ us. Ok (option_to_list x.0.0 ++ us)) ts x.2 in
    let is = (front_fits (b ∷ bs)).is in
    let shorter = step_shorter (front_of (b ∷ bs)) at (b ∷ bs) x.0 is x.1 in
    subst (λ vs. Reads at (b ∷ bs) vs) (done_is (option_to_list x.0.0 ++ us.0) ts us.2)
    (step_reads (front_of (b ∷ bs)) at (b ∷ bs) x.0 us.0 is x.1 (reads_from n x.0.1 x.0.2 us.0 (omega arith) us.1))

pub tokens_read : (text : List ℕ) (ts : List Token) → tokens_of text ≡ Ok ts → Reads origin text ts
tokens_read text ts e = reads_from (suc (length text)) origin text ts (omega arith) e
