-- What follows from a reading: tokens are slices, and lie within bounds.
use Rattle.std.proofs.Common.{◌≡◌, ℕ, ◌+◌, ◌-◌, ◌≤◌, ◌<◌, Bool, true, false, cond, List, [], ◌∷◌, ◌++◌, length, take, drop, Ok, refl, sym, ap, subst, ◌∙◌, arith}
use Rattle.std.specs.Prelude.{◌==◌, slice_range}
use Rattle.std.proofs.lemmas.List.{drop-drop, length-append, length-drop}
use Rattle.alloy_lex.specs.declared.token.Place.{Place}
use Rattle.alloy_lex.specs.declared.token.Token.{Token}
use Rattle.alloy_lex.specs.declared.token.TokenKind.{TokenKind}
use Rattle.alloy_lex.specs.declared.token.TokenKind.TheVariants as kind
use Rattle.alloy_lex.specs.declared.lexing.Spot.{Spot}
use Rattle.alloy_lex.specs.Fronts.{line_feed, slash}
use Rattle.alloy_lex.specs.Tokens.{is_continuation, next_line, next_column, after_byte, after_bytes, passed, origin, tokens_of, token_end}
use Rattle.alloy_lex.specs.Reading.{IsToken, IsNext, Reads, AreSlices, AreSized}
use Rattle.alloy_lex.proofs.Paths.{take_front, drop_front}
use Rattle.alloy_lex.proofs.Readings.{tokens_read}

path_has_byte : (first second : List ℕ) → 0 < length (first ++ (slash ∷ second))
path_has_byte first second = let l = length-append first (slash ∷ second) in omega arith

-- a token has a byte
pub has_byte : (k : TokenKind) (text rest : List ℕ) → IsToken k text rest → 0 < length text
has_byte k (b ∷ bs) rest is = omega arith
has_byte kind.Name [] rest is = let e = is.0.0 in absurd cc
has_byte kind.Path [] rest is = subst (λ (xs : List ℕ). 0 < length xs) (sym is.parts) (path_has_byte is.first is.second)
has_byte kind.Word [] rest is = let e = is.0 in absurd cc
has_byte kind.Number [] rest is = let e = is.0 in absurd cc
has_byte kind.Symbol [] rest is = let e = is.0 in absurd cc

module _ (whole : List ℕ) where
  -- the text that is left is behind the spot
  drop_more : (a b : ℕ) (xs : List ℕ) → xs ≡ drop a whole → drop b xs ≡ drop (a + b) whole
  drop_more a b xs e = ap (λ (ys : List ℕ). drop b ys) e ∙ drop-drop b a whole

  slice_of : (at : Spot) (text gap rest : List ℕ) (t : Token) → text ≡ drop at.start whole → IsNext at text gap rest t
      → (at.start ≤ t.start) × (0 < length t.text) × (token_end t ≤ length whole) × (t.text ≡ slice_range whole t.start (token_end t))
  slice_of at text gap rest t there next =
      let start : t.start ≡ at.start + length gap = next.start in
      let has : 0 < length t.text = has_byte t.kind t.text rest next.longest in
      let parts : length text ≡ length gap + length (t.text ++ rest) = ap (λ (xs : List ℕ). length xs) next.whole ∙ length-append gap (t.text ++ rest) in
      let more : length (t.text ++ rest) ≡ length t.text + length rest = length-append t.text rest in
      let left : length text ≡ length whole - at.start = ap (λ (xs : List ℕ). length xs) there ∙ length-drop at.start whole in
      let behind : drop t.start whole ≡ t.text ++ rest =
      ap (λ (k : ℕ). drop k whole) start ∙ sym (drop_more at.start (length gap) text there) ∙ ap (λ (xs : List ℕ). drop (length gap) xs) next.whole ∙ drop_front gap (t.text ++ rest) in
      let long : length t.text ≡ token_end t - t.start = omega arith in (
        omega arith,
        omega arith,
        omega arith,
        sym (take_front t.text rest) ∙ ap (λ (xs : List ℕ). take (length t.text) xs) (sym behind) ∙ ap (λ (k : ℕ). take k (drop t.start whole)) long,
      )

  rest_of : (at : Spot) (text gap rest : List ℕ) (t : Token) → text ≡ drop at.start whole → IsNext at text gap rest t → rest ≡ drop (at.start + length gap + length t.text) whole
  rest_of at text gap rest t there next =
      let behind : t.text ++ rest ≡ drop (at.start + length gap) whole =
      sym (drop_front gap (t.text ++ rest)) ∙ ap (λ (xs : List ℕ). drop (length gap) xs) (sym next.whole) ∙ drop_more at.start (length gap) text there in
      sym (drop_front t.text rest) ∙ drop_more (at.start + length gap) (length t.text) (t.text ++ rest) behind

  slices_from : (ts : List Token) (at : Spot) (text : List ℕ) → text ≡ drop at.start whole → Reads at text ts → AreSlices whole at.start ts
  slices_from [] at text there reads = tt
  slices_from (t ∷ ts) at text there reads =
      let next = reads.2 in
      let slice = slice_of at text reads.0 reads.1 t there next in
      let end : at.start + length reads.0 + length t.text ≡ token_end t = sym (ap (λ (k : ℕ). k + length t.text) next.start) in
      (slice.0, slice.1, slice.2, slice.3, subst (λ (k : ℕ). AreSlices whole k ts) end (slices_from ts (passed (passed at reads.0) t.text) reads.1 (rest_of at text reads.0 reads.1 t there next) reads.3))

pub tokens_slices : (text : List ℕ) (ts : List Token) → tokens_of text ≡ Ok ts → AreSlices text 0 ts
tokens_slices text ts e = slices_from text ts origin text refl (tokens_read text ts e)

-- ---- bounds

line_step : (t c : Bool) (p : Place) → (let q : Place = cond t (next_line p) (cond c p (next_column p)) in (q.line ≤ p.line + 1) × (q.column ≤ p.column + 1))
line_step true c p = (omega arith, omega arith)
line_step false true p = (omega arith, omega arith)
line_step false false p = (omega arith, omega arith)

after_bounds : (bs : List ℕ) (p : Place) → ((after_bytes p bs).line ≤ p.line + length bs) × ((after_bytes p bs).column ≤ p.column + length bs)
unfolding after_bytes
after_bounds [] p = (omega arith, omega arith)
after_bounds (b ∷ bs) p =
    let step = line_step (b == line_feed) (is_continuation b) p in
    let more = after_bounds bs (after_byte p b) in
    let a = step.0 in
    let b' = step.1 in
    let c = more.0 in
    let d = more.1 in
    (omega arith, omega arith)

sized_from : (ts : List Token) (at : Spot) (text : List ℕ) → at.start + length text ≤ 1048576 → at.place.line ≤ at.start + 1 → at.place.column ≤ at.start + 1 → Reads at text ts → AreSized ts
sized_from [] at text fits line column reads = tt
sized_from (t ∷ ts) at text fits line column reads =
    let next = reads.2 in
    let start : t.start ≡ at.start + length reads.0 = next.start in
    let parts : length text ≡ length reads.0 + length (t.text ++ reads.1) = ap (λ (xs : List ℕ). length xs) next.whole ∙ length-append reads.0 (t.text ++ reads.1) in
    let more : length (t.text ++ reads.1) ≡ length t.text + length reads.1 = length-append t.text reads.1 in
    let gap = after_bounds reads.0 at.place in
    let gap_line : (after_bytes at.place reads.0).line ≤ at.place.line + length reads.0 = gap.0 in
    let gap_column : (after_bytes at.place reads.0).column ≤ at.place.column + length reads.0 = gap.1 in
    let text' = after_bounds t.text (after_bytes at.place reads.0) in
    let text_line = text'.0 in
    let text_column = text'.1 in
    let at_line : t.place.line ≡ (after_bytes at.place reads.0).line = ap (λ (p : Place). p.line) next.place in
    let at_column : t.place.column ≡ (after_bytes at.place reads.0).column = ap (λ (p : Place). p.column) next.place in (
      record { end = omega arith; line = omega arith; column = omega arith },
      sized_from ts (passed (passed at reads.0) t.text) reads.1 (omega arith) (omega arith) (omega arith) reads.3,
    )

pub tokens_sized : (text : List ℕ) (ts : List Token) → length text ≤ 1048576 → tokens_of text ≡ Ok ts → AreSized ts
tokens_sized text ts fits e = sized_from ts origin text (omega arith) (omega arith) (omega arith) (tokens_read text ts e)

few_from : (ts : List Token) (at : Spot) (text : List ℕ) → Reads at text ts → length ts ≤ length text
few_from [] at text reads = omega arith
few_from (t ∷ ts) at text reads =
    let next = reads.2 in
    let has : 0 < length t.text = has_byte t.kind t.text reads.1 next.longest in
    let parts : length text ≡ length reads.0 + length (t.text ++ reads.1) = ap (λ (xs : List ℕ). length xs) next.whole ∙ length-append reads.0 (t.text ++ reads.1) in
    let more : length (t.text ++ reads.1) ≡ length t.text + length reads.1 = length-append t.text reads.1 in
    let rest = few_from ts (passed (passed at reads.0) t.text) reads.1 reads.3 in
    omega arith

-- no more tokens than bytes
pub tokens_few : (text : List ℕ) (ts : List Token) → tokens_of text ≡ Ok ts → length ts ≤ length text
tokens_few text ts e = few_from ts origin text (tokens_read text ts e)
