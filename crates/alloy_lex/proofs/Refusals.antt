-- Where a text has no more tokens.
use Rattle.std.proofs.Common.{◌≡◌, ℕ, zero, suc, ◌<◌, Bool, true, false, cond, List, [], ◌∷◌, ◌++◌, length, take, drop, get_or, Option, Some, None, option_to_list, Result, Ok, Err, refl, sym, ap, subst, ◌∙◌, append_assoc, arith}
use Rattle.std.specs.Prelude.{nat_le}
use Rattle.std.specs.List.{prefix_len}
use Rattle.std.proofs.lemmas.List.{take-append-drop}
use Rattle.alloy_lex.specs.declared.token.Place.{Place}
use Rattle.alloy_lex.specs.declared.token.Token.{Token}
use Rattle.alloy_lex.specs.declared.token.TokenKind.{TokenKind}
use Rattle.alloy_lex.specs.declared.token.TokenKind.TheVariants as kind
use Rattle.alloy_lex.specs.declared.token.LexFault.{LexFault}
use Rattle.alloy_lex.specs.declared.token.LexFault.TheVariants as fault
use Rattle.alloy_lex.specs.declared.front.Front.{Front}
use Rattle.alloy_lex.specs.declared.front.Front.TheVariants as front
use Rattle.alloy_lex.specs.declared.lexing.Spot.{Spot}
use Rattle.alloy_lex.specs.Fronts.{is_digit, number_from, comment_len, comment_front, front_of}
use Rattle.alloy_lex.specs.Tokens.{Step, ◌>>=◌, after_bytes, passed, token_at, step_at, step_of, tokens_from, origin, tokens_of}
use Rattle.alloy_lex.specs.Reading.{Separates, nothing, space, slashes, dashes, block, ReadsBefore, IsBad, IsFaultAt, IsRefused}
use Rattle.alloy_lex.proofs.FrontTexts.{Precedes, FrontIs, front_fits}
use Rattle.alloy_lex.proofs.Readings.{after_append, after_none, passed_append, passed_none, next_behind}
use Rattle.alloy_lex.proofs.Characters.{after_characters}
use Rattle.alloy_lex.proofs.UniqueReadings.{space_front, slashes_front, dashes_front, block_front, number_here, token_front}

-- ---- where no token begins

abbrev bad : List ℕ → Type 0
bad text = front_of text ≡ front.BadCharacter

not_blank : (n : ℕ) (text : List ℕ) → bad text → front_of text ≡ front.Blank n → ⊥
not_blank n text e other = absurd (let both : front.BadCharacter ≡ front.Blank n = sym e ∙ other in cc)

not_token : (k : TokenKind) (n : ℕ) (text : List ℕ) → bad text → front_of text ≡ front.Token k n → ⊥
not_token k n text e other = absurd (let both : front.BadCharacter ≡ front.Token k n = sym e ∙ other in cc)

no_gap : (gap rest : List ℕ) → bad (gap ++ rest) → Separates gap rest → gap ≡ []
no_gap gap rest e nothing = refl
no_gap gap rest e (space {b} {gap = after} is more) = absurd (not_blank 1 (b ∷ (after ++ rest)) e (space_front b (after ++ rest) is))
no_gap gap rest e (slashes body gap' run more) =
    absurd (not_blank _ _ (subst (λ (xs : List ℕ). bad (47 ∷ 47 ∷ xs)) (append_assoc body gap' rest) e) (slashes_front body (gap' ++ rest) run))
no_gap gap rest e (dashes body gap' run more) =
    absurd (not_blank _ _ (subst (λ (xs : List ℕ). bad (45 ∷ 45 ∷ xs)) (append_assoc body gap' rest) e) (dashes_front body (gap' ++ rest) run))
no_gap gap rest e (block body gap' closed more) =
    absurd (not_blank _ _ (subst (λ (xs : List ℕ). bad (47 ∷ 42 ∷ xs)) (append_assoc body gap' rest) e) (block_front body (gap' ++ rest) closed))

comment_is_not : (o : Option ℕ) → comment_front o ≡ front.BadCharacter → ⊥
comment_is_not (Some n) e = cc
comment_is_not None e = cc

no_comment : (body : List ℕ) → bad (47 ∷ 42 ∷ body) → ⊥
unfolding front_of
no_comment body e = comment_is_not (comment_len body) e

number_is_not : (t : Bool) (n : ℕ) → cond t (front.Token kind.Number n) front.NumberTooLarge ≡ front.BadCharacter → ⊥
number_is_not true n e = cc
number_is_not false n e = cc

no_digit : (t : Bool) (text : List ℕ) → is_digit (get_or text 0 0) ≡ t → bad text → t ≡ false
no_digit false text e is = refl
no_digit true [] e is = absurd cc
no_digit true (b ∷ bs) e is =
    let n = prefix_len is_digit (b ∷ bs) in
    absurd (number_is_not (nat_le (number_from 0 (take n (b ∷ bs))) 1000) n (sym (number_here b bs e) ∙ is))

bad_is : (text : List ℕ) → 0 < length text → bad text → IsBad text
bad_is text some e = record {
  some = some;
  no_gap = λ gap rest parts separates. no_gap gap rest (subst (λ (xs : List ℕ). bad xs) parts e) separates;
  no_token = λ k token rest parts is. not_token k (length token) text e (ap (λ (xs : List ℕ). front_of xs) parts ∙ token_front k token rest is);
  no_comment = λ body parts. no_comment body (subst (λ (xs : List ℕ). bad xs) parts e);
  no_digit = no_digit (is_digit (get_or text 0 0)) text refl e;
}

-- ---- from a spot on

-- the text reads from the spot on up to a place, and there is that fault
record Stops (at : Spot) (text : List ℕ) (e : LexFault) : Type 0 where
  before : List ℕ
  rest : List ℕ
  parts : text ≡ before ++ rest
  tokens : List Token
  reads : ReadsBefore at text tokens rest
  fault : IsFaultAt e (after_bytes at.place before) rest

abbrev fail : {A : Type 0} → LexFault → Result A LexFault
fail f = Err f

abbrev done : {A : Type 0} → A → Result A LexFault
done x = Ok x

fails_as : {A : Type 0} (d e : LexFault) → fail {A = A} d ≡ fail e → d ≡ e
fails_as d e is = cc

not_fault : {A : Type 0} (x : A) (e : LexFault) → done x ≡ fail e → ⊥
not_fault x e is = cc

here : (at : Spot) (text : List ℕ) (e : LexFault) → IsFaultAt e at.place text → Stops at text e
here at text e is = record {
  before = [];
  rest = text;
  parts = refl;
  tokens = [];
  reads = ([], refl, nothing);
  fault = subst (λ (p : Place). IsFaultAt e p text) (after_none at.place) is;
}

step_stops : (f : Front) (at : Spot) (text : List ℕ) (e : LexFault) → front_of text ≡ f → 0 < length text → FrontIs f text → step_at f at text ≡ fail e → Stops at text e
step_stops (front.Blank n) at text e front some is read = absurd (not_fault _ e read)
step_stops (front.Token k n) at text e front some is read = absurd (not_fault _ e read)
step_stops front.BadCharacter at text e front some is read = subst (λ (d : LexFault). Stops at text d) (fails_as (fault.BadCharacter at.place) e read) (here at text (fault.BadCharacter at.place) (refl, bad_is text some front))
step_stops front.OpenComment at text e front some is read = subst (λ (d : LexFault). Stops at text d) (fails_as (fault.OpenComment at.place) e read) (here at text (fault.OpenComment at.place) (refl, is))
step_stops front.NumberTooLarge at text e front some is read = subst (λ (d : LexFault). Stops at text d) (fails_as (fault.NumberTooLarge at.place) e read) (here at text (fault.NumberTooLarge at.place) (refl, is))

-- a separator before a reading
behind : (ts : List Token) (at : Spot) (piece more text rest : List ℕ) → text ≡ piece ++ more → Precedes piece more → ReadsBefore (passed at piece) more ts rest → ReadsBefore at text ts rest
behind [] at piece more text rest whole before reads =
    (piece ++ reads.0, whole ∙ ap (λ (xs : List ℕ). piece ++ xs) reads.1 ∙ sym (append_assoc piece reads.0 rest), before reads.0 rest (sym reads.1) reads.2)
behind (t ∷ ts) at piece more text rest whole before reads =
    (piece ++ reads.0, reads.1, next_behind at piece more text reads.0 reads.1 t whole before reads.2, subst (λ s. ReadsBefore (passed s t.text) reads.1 ts rest) (passed_append at piece reads.0) reads.3)

-- what was taken goes before what the rest reads as
later : (at : Spot) (piece more text : List ℕ) (e : LexFault) (found : List Token) (s : Stops (passed at piece) more e) → text ≡ piece ++ more → ReadsBefore at text (found ++ s.tokens) s.rest → Stops at text e
later at piece more text e found s whole reads = record {
  before = piece ++ s.before;
  rest = s.rest;
  parts = whole ∙ ap (λ (xs : List ℕ). piece ++ xs) s.parts ∙ sym (append_assoc piece s.before s.rest);
  tokens = found ++ s.tokens;
  reads = reads;
  fault = subst (λ (p : Place). IsFaultAt e p s.rest) (after_append at.place piece s.before) s.fault;
}

step_later : (f : Front) (at : Spot) (text : List ℕ) (x : Step) (e : LexFault) → FrontIs f text → step_at f at text ≡ done x → Stops x.1 x.2 e → Stops at text e
step_later (front.Blank n) at text x e is read stops =
    let x_is : (None, passed at (take n text), drop n text) ≡ x = cc in
    subst (λ (y : Step). Stops y.1 y.2 e → Stops at text e) x_is
    (λ s. later at (take n text) (drop n text) text e [] s (sym (take-append-drop n text)) (behind s.tokens at (take n text) (drop n text) text s.rest (sym (take-append-drop n text)) is.1 s.reads)) stops
step_later (front.Token k n) at text x e is read stops =
    let t = token_at k at (take n text) in
    let x_is : (Some t, passed at (take n text), drop n text) ≡ x = cc in
    subst (λ (y : Step). Stops y.1 y.2 e → Stops at text e) x_is
    (λ s. later at (take n text) (drop n text) text e (t ∷ []) s (sym (take-append-drop n text)) (
      [],
      drop n text,
      record {
        whole = sym (take-append-drop n text);
        separated = nothing;
        longest = is.1;
        start = omega arith;
        place = after_none at.place;
      },
      subst (λ s'. ReadsBefore (passed s' (take n text)) (drop n text) s.tokens s.rest) (sym (passed_none at)) s.reads,
    )) stops
step_later front.BadCharacter at text x e is read stops = absurd (not_fault x _ (sym read))
step_later front.OpenComment at text x e is read stops = absurd (not_fault x _ (sym read))
step_later front.NumberTooLarge at text x e is read stops = absurd (not_fault x _ (sym read))

-- ---- the first fault

then_fails : {A : Type 0} (r : Result A LexFault) (f : A → List Token) (e : LexFault) → (r >>= λ x. done (f x)) ≡ fail e → r ≡ fail e
then_fails (Ok x) f e is = absurd (not_fault (f x) e is)
then_fails (Err d) f e is = ap (λ (x : LexFault). fail x) (fails_as d e is)

module _ (at : Spot) (text : List ℕ) (e : LexFault) (n : ℕ) (deeper : (at : Spot) (text : List ℕ) → tokens_from n at text ≡ fail e → Stops at text e) (some : 0 < length text) where
  on : (r : Result Step LexFault) → step_of at text ≡ r → (r >>= λ s. tokens_from n s.1 s.2 >>= λ ts. Ok (option_to_list s.0 ++ ts)) ≡ fail e → Stops at text e
  unfolding step_of
  on (Ok x) step is = step_later (front_of text) at text x e (front_fits text).is step (deeper x.1 x.2 (then_fails (tokens_from n x.1 x.2) (λ ts. option_to_list x.0 ++ ts) e is))
  on (Err d) step is = step_stops (front_of text) at text e refl some (front_fits text).is (step ∙ ap (λ (x : LexFault). fail x) (fails_as d e is))

stops_from : (n : ℕ) (at : Spot) (text : List ℕ) (e : LexFault) → tokens_from n at text ≡ fail e → Stops at text e
unfolding tokens_from
stops_from zero at text e is = absurd (not_fault _ e is)
stops_from (suc n) at [] e is = absurd (not_fault _ e is)
stops_from (suc n) at (b ∷ bs) e is = on at (b ∷ bs) e n (λ at' text' is'. stops_from n at' text' e is') (omega arith) (step_of at (b ∷ bs)) refl is

pub refused : (text : List ℕ) (e : LexFault) → tokens_of text ≡ Err e → IsRefused text e
refused text e is =
    let s = stops_from (suc (length text)) origin text e is in
    record {
      before = s.before;
      rest = s.rest;
      parts = s.parts;
      tokens = s.tokens;
      reads = s.reads;
      place = after_bytes origin.place s.before;
      counts = λ cs e. ap (λ (xs : List ℕ). after_bytes origin.place xs) (sym e) ∙ after_characters cs origin.place;
      fault = s.fault;
    }
