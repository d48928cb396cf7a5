-- Places count characters.
use Rattle.std.proofs.Common.{◌≡◌, ℕ, ◌+◌, ◌/◌, ◌%◌, ◌≤◌, ◌<◌, Bool, true, false, cond, List, [], ◌∷◌, ◌++◌, length, take, Ok, refl, sym, ap, ◌∙◌, append_assoc, arith}
use Rattle.std.specs.Prelude.{◌==◌, nat_lt, fold, encode_utf8_all}
use Rattle.std.proofs.Math.Utf8.{encode}
use Rattle.std.proofs.lemmas.List.{length-append}
use Rattle.alloy_lex.specs.declared.token.Place.{Place}
use Rattle.alloy_lex.specs.declared.token.Token.{Token}
use Rattle.alloy_lex.specs.declared.lexing.Spot.{Spot}
use Rattle.alloy_lex.specs.Tokens.{is_continuation, next_column, after_byte, after_bytes, passed, origin, tokens_of}
use Rattle.alloy_lex.specs.Reading.{Reads, after_character, place_after, ArePlaced}
use Rattle.alloy_lex.proofs.Readings.{tokens_read, after_append, after_none}
use Rattle.alloy_lex.proofs.Paths.{take_front}

no_line_feed : (b : ℕ) → 128 ≤ b → (b == 10) ≡ false
no_line_feed b le = grind arith

leads : (b : ℕ) → 192 ≤ b → is_continuation b ≡ false
leads b le = grind arith

follows : (b : ℕ) → 128 ≤ b → b < 192 → is_continuation b ≡ true
follows b le lt = grind arith

is_plain : (b : ℕ) → b < 128 → is_continuation b ≡ false
is_plain b lt = grind arith

after_lead : (p : Place) (b : ℕ) → 192 ≤ b → after_byte p b ≡ next_column p
after_lead p b le = let feed = no_line_feed b (omega arith) in rw (feed, leads b le) refl

after_rest : (p : Place) (x : ℕ) → after_byte p (128 + x % 64) ≡ p
after_rest p x = rw (no_line_feed (128 + x % 64) (omega arith), follows (128 + x % 64) (omega arith) (omega arith)) refl

wide : (p : Place) (c : ℕ) → 128 ≤ c → after_character p c ≡ next_column p
wide p c le = rw (no_line_feed c le) refl

single : (p : Place) (c : ℕ) → c < 128 → after_bytes p (c ∷ []) ≡ after_character p c
unfolding after_bytes
single p c lt = rw (is_plain c lt) refl

two : (p : Place) (a x : ℕ) → 192 ≤ a → after_bytes p (a ∷ (128 + x % 64) ∷ []) ≡ next_column p
unfolding after_bytes
two p a x le = rw (after_lead p a le) (after_rest (next_column p) x)

three : (p : Place) (a x y : ℕ) → 192 ≤ a → after_bytes p (a ∷ (128 + x % 64) ∷ (128 + y % 64) ∷ []) ≡ next_column p
unfolding after_bytes
three p a x y le = rw (after_lead p a le, after_rest (next_column p) x) (after_rest (next_column p) y)

four : (p : Place) (a x y z : ℕ) → 192 ≤ a → after_bytes p (a ∷ (128 + x % 64) ∷ (128 + y % 64) ∷ (128 + z % 64) ∷ []) ≡ next_column p
unfolding after_bytes
four p a x y z le = rw (after_lead p a le, after_rest (next_column p) x, after_rest (next_column p) y) (after_rest (next_column p) z)

choose : (P : List ℕ → Type 0) (t : Bool) (x y : List ℕ) → (t ≡ true → P x) → (t ≡ false → P y) → P (cond t x y)
choose P true x y this other = this refl
choose P false x y this other = other refl

at_least : (c n : ℕ) → nat_lt c n ≡ false → n ≤ c
at_least c n e = grind arith

below : (c n : ℕ) → nat_lt c n ≡ true → c < n
below c n e = grind arith

after_encode : (p : Place) (c : ℕ) → after_bytes p (encode c) ≡ after_character p c
unfolding encode
after_encode p c =
    choose (λ bs. after_bytes p bs ≡ after_character p c) (nat_lt c 128) _ _ (λ e. single p c (below c 128 e)) (λ e.
    let w = wide p c (at_least c 128 e) in
    choose (λ bs. after_bytes p bs ≡ after_character p c) (nat_lt c 2048) _ _ (λ e. two p (192 + c / 64) c (omega arith) ∙ sym w) (λ e.
    choose (λ bs. after_bytes p bs ≡ after_character p c) (nat_lt c 65536) _ _ (λ e. three p (224 + c / 4096) (c / 64) c (omega arith) ∙ sym w) (λ e.
    four p (240 + c / 262144) (c / 4096) (c / 64) c (omega arith) ∙ sym w)))

pub after_characters : (cs : List ℕ) (p : Place) → after_bytes p (encode_utf8_all cs) ≡ fold after_character p cs
after_characters [] p = sym (after_none p)
after_characters (c ∷ cs) p = sym (after_append p (encode c) (encode_utf8_all cs)) ∙ ap (λ (q : Place). after_bytes q (encode_utf8_all cs)) (after_encode p c) ∙ after_characters cs (after_character p c)

-- ---- the places of tokens

-- what was read before a spot, which is behind it
record Behind (whole before text : List ℕ) (at : Spot) : Type 0 where
  parts : whole ≡ before ++ text
  start : at.start ≡ length before
  place : at.place ≡ after_bytes origin.place before

behind_gap : (whole before text gap more : List ℕ) (at : Spot) → Behind whole before text at → text ≡ gap ++ more → Behind whole (before ++ gap) more (passed at gap)
behind_gap whole before text gap more at b split =
    let l = length-append before gap in
    let s = b.start in
    record {
      parts = b.parts ∙ ap (λ (xs : List ℕ). before ++ xs) split ∙ sym (append_assoc before gap more);
      start = omega arith;
      place = ap (λ (p : Place). after_bytes p gap) b.place ∙ after_append origin.place before gap;
    }

placed_at : (whole before text : List ℕ) (at : Spot) (t : Token) (cs : List ℕ) → Behind whole before text at → t.start ≡ at.start → t.place ≡ at.place → encode_utf8_all cs ≡ take t.start whole → t.place ≡ place_after cs
placed_at whole before text at t cs b start place e =
    let taken : take t.start whole ≡ before =
    ap (λ (k : ℕ). take k whole) (start ∙ b.start) ∙ ap (λ (xs : List ℕ). take (length before) xs) b.parts ∙ take_front before text in
    place ∙ b.place ∙ ap (λ (xs : List ℕ). after_bytes origin.place xs) (sym (e ∙ taken)) ∙ after_characters cs origin.place

placed_from : (whole : List ℕ) (ts : List Token) (at : Spot) (text before : List ℕ) → Behind whole before text at → Reads at text ts → ArePlaced whole ts
placed_from whole [] at text before b reads = tt
placed_from whole (t ∷ ts) at text before b reads =
    let next = reads.2 in
    let gap = behind_gap whole before text reads.0 (t.text ++ reads.1) at b next.whole in
    let after = behind_gap whole (before ++ reads.0) (t.text ++ reads.1) t.text reads.1 (passed at reads.0) gap refl in (
      λ cs e. placed_at whole (before ++ reads.0) (t.text ++ reads.1) (passed at reads.0) t cs gap next.start next.place e,
      placed_from whole ts (passed (passed at reads.0) t.text) reads.1 (before ++ reads.0 ++ t.text) after reads.3,
    )

pub tokens_placed : (text : List ℕ) (ts : List Token) → tokens_of text ≡ Ok ts → ArePlaced text ts
tokens_placed text ts e = placed_from text ts origin text [] (record { parts = refl; start = refl; place = after_none origin.place }) (tokens_read text ts e)
