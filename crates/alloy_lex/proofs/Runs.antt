-- Runs of bytes at the front of a text.
use Rattle.std.proofs.Common.{◌≡◌, ℕ, zero, suc, ◌+◌, ◌*◌, ◌-◌, ◌<◌, ◌≤◌, Bool, true, false, cond, List, [], ◌∷◌, ◌++◌, take, drop, get_or, refl, sym, subst, arith, one-add}
use Rattle.std.specs.Prelude.{nat_le, not, ◌==◌, ◌&&◌}
use Rattle.std.proofs.Math.Seq.{take-add}
use Rattle.std.specs.List.{prefix_len}
use Rattle.std.specs.Str.{IsAscii, IsUtf8}
use Rattle.std.proofs.lemmas.Str.{IsUtf8-from_ascii}
use Rattle.alloy_lex.specs.Words.{is_word}
use Rattle.alloy_lex.specs.Fronts.{slash, is_name_byte, is_letter, is_digit, number_from, second_len}

-- ---- numbers

grows : (n : ℕ) (ds : List ℕ) → n ≤ number_from n ds
unfolding number_from
grows n [] = omega arith
grows n (d ∷ ds) = let more = grows (n * 10 + (d - 48)) ds in omega arith

pub too_large : (n : ℕ) (ds : List ℕ) → 1000 < n → nat_le (number_from n ds) 1000 ≡ false
too_large n ds large = let more = grows n ds in grind arith

-- ---- ASCII

ascii_nil : IsAscii []
ascii_nil i = omega arith

ascii_cons : (b : ℕ) (bs : List ℕ) → b < 128 → IsAscii bs → IsAscii (b ∷ bs)
ascii_cons b bs small rest zero = small
ascii_cons b bs small rest (suc i) = rest i

pub text_of_ascii : (bs : List ℕ) → IsAscii bs → IsUtf8 bs
text_of_ascii bs ascii = IsUtf8-from_ascii bs ascii

run_step : (t : Bool) (n b : ℕ) (bs : List ℕ) → (t ≡ true → b < 128) → IsAscii (take n bs) → IsAscii (take (cond t (1 + n) 0) (b ∷ bs))
run_step true n b bs small rest = rw one-add (ascii_cons b (take n bs) (small refl) rest)
run_step false n b bs small rest = ascii_nil

ascii_run : (p : ℕ → Bool) → ((b : ℕ) → p b ≡ true → b < 128) → (bs : List ℕ) → IsAscii (take (prefix_len p bs) bs)
ascii_run p small [] = ascii_nil
ascii_run p small (b ∷ bs) = run_step (p b) (prefix_len p bs) b bs (small b) (ascii_run p small bs)

name_byte_small : (b : ℕ) → is_name_byte b ≡ true → b < 128
name_byte_small b e = grind arith

digit_small : (b : ℕ) → is_digit b ≡ true → b < 128
digit_small b e = grind arith

pub name_is_ascii : (bs : List ℕ) → IsAscii (take (prefix_len is_name_byte bs) bs)
name_is_ascii bs = ascii_run is_name_byte name_byte_small bs

ascii_append : (xs ys : List ℕ) → IsAscii xs → IsAscii ys → IsAscii (xs ++ ys)
ascii_append [] ys first second i = second i
ascii_append (x ∷ xs) ys first second zero = first zero
ascii_append (x ∷ xs) ys first second (suc i) = ascii_append xs ys (λ j. first (suc j)) second i

first_is : (t : Bool) (b : ℕ) → (b == slash && t) ≡ true → b ≡ slash
first_is true b e = grind arith
first_is false b e = grind arith

second_step : (t : Bool) (n b : ℕ) (bs : List ℕ) → (t ≡ true → b < 128) → IsAscii (take n bs) → IsAscii (take (cond t (n + 1) 0) (b ∷ bs))
second_step true n b bs small rest = let one : n + 1 ≡ suc n = omega arith in rw one (ascii_cons b (take n bs) (small refl) rest)
second_step false n b bs small rest = ascii_nil

slash_is_small : (t : Bool) (b : ℕ) → (b == slash && t) ≡ true → b < 128
slash_is_small t b e = let is = first_is t b e in omega arith

second_is_ascii : (bs : List ℕ) → IsAscii (take (second_len bs) bs)
unfolding second_len
second_is_ascii [] = ascii_nil
second_is_ascii (b ∷ bs) =
    let n = prefix_len is_name_byte bs in
    let named = is_letter (get_or bs 0 0) && not (is_word (take n bs)) in
    second_step (b == slash && named) n b bs (slash_is_small named b) (name_is_ascii bs)

-- a run, and a slash and a name behind it
pub path_is_ascii : (bs : List ℕ) → IsAscii (take (prefix_len is_name_byte bs + second_len (drop (prefix_len is_name_byte bs) bs)) bs)
path_is_ascii bs =
    let n = prefix_len is_name_byte bs in
    let more = second_len (drop n bs) in
    subst (λ (xs : List ℕ). IsAscii xs) (sym (take-add n more bs)) (ascii_append (take n bs) (take more (drop n bs)) (name_is_ascii bs) (second_is_ascii (drop n bs)))

pub number_is_ascii : (bs : List ℕ) → IsAscii (take (prefix_len is_digit bs) bs)
number_is_ascii bs = ascii_run is_digit digit_small bs

-- ---- a run has a byte where the first passes

some_of : (t : Bool) (n : ℕ) → t ≡ true → 0 < cond t (1 + n) 0
some_of true n e = omega arith
some_of false n e = absurd cc

letter_is_name_byte : (b : ℕ) → is_letter b ≡ true → is_name_byte b ≡ true
letter_is_name_byte b e = grind arith

pub name_has_some : (bs : List ℕ) → is_letter (get_or bs 0 0) ≡ true → 0 < prefix_len is_name_byte bs
name_has_some [] e = absurd cc
name_has_some (b ∷ bs) e = some_of (is_name_byte b) (prefix_len is_name_byte bs) (letter_is_name_byte b e)

pub number_has_some : (bs : List ℕ) → is_digit (get_or bs 0 0) ≡ true → 0 < prefix_len is_digit bs
number_has_some [] e = absurd cc
number_has_some (b ∷ bs) e = some_of (is_digit b) (prefix_len is_digit bs) e
