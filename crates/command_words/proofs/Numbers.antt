-- How `clap` reads the numbers of options.
use Rattle.std.proofs.Common.{◌≡◌, ◌≤◌, ◌<◌, ◌+◌, ◌*◌, ◌-◌, ◌^◌, ◌∙◌, ◌&&◌, ℕ, Bool, cond, true, false, [], ◌∷◌, drop, length, Some, None, pos, refl, sym, ap, subst, arith, slice_index, w64}
use Rattle.std.specs.Prelude.{◌==◌, ℤ, neg_ℤ, ◌≤ℤ◌, FitsSigned, option_and_then, unwrap_or}
use Rattle.std.specs.List.{All}
use Rattle.std.specs.Char.{digit_value}
use Rattle.std.specs.Str.{bytes_eq}
use Rattle.std.specs.Str.Parse.{AllDigits, IsNumeral, digits_value, digits_value_after, signed_digits_value, without_leading_plus, without_leading_sign}
use Rattle.std.proofs.Math.Nat.{pow-le-pow_right}
use Rattle.std.proofs.lemmas.Bool.Decides.{nat_tests}
use Rattle.std.proofs.lemmas.Int.{ints}
use Rattle.std.proofs.lemmas.Int.Digits.{digits_value-lt}
use Rattle.std.proofs.lemmas.List.Elements.{All-drop}
use Rattle.clap.specs.Lexer.{long_of_rest, short_of_rest, strip_byte, without_minus}
use Rattle.clap.specs.ValueTests.{accepts}
use Rattle.clap.proofs.ValueTestLemmas.{Accepts-accepts, accepts-Accepts}
use Rattle.clap.specs.declared.builder.value_parser.ValueParser.TheVariants.{Signed}
use Rattle.clap.specs.Walk.{Text}
use Rattle.command_words.specs.Words.{IsDigit, IsNumber, number_after}
use Rattle.command_words.proofs.LongWords.{dashes}
use Rattle.command_words.proofs.Options.{IsPlain}

-- ---- digits

digit_is : (b : ℕ) → IsDigit b → digit_value b ≡ b - 48
digit_is b d =
    let least = d.0 in
    let most = d.1 in
    grind (arith, nat_tests)

first_digit : (b : ℕ) (bs : Text) → All IsDigit (b ∷ bs) → IsDigit b
first_digit b bs all = all 0 b (omega arith)

other_digits : (b : ℕ) (bs : Text) → All IsDigit (b ∷ bs) → All IsDigit bs
other_digits b bs all = All-drop IsDigit 1 (b ∷ bs) all

value_after : (n : ℕ) (digits : Text) → All IsDigit digits → digits_value_after 10 n digits ≡ number_after n digits
value_after n [] all = refl
value_after n (b ∷ bs) all =
    ap (λ d. digits_value_after 10 (n * 10 + d) bs) (digit_is b (first_digit b bs all)) ∙ value_after (n * 10 + (b - 48)) bs (other_digits b bs all)

pub value_is : (v : Text) → IsNumber v → digits_value 10 v ≡ number_after 0 v
value_is v is = value_after 0 v is.digits

all_digits : (digits : Text) → All IsDigit digits → AllDigits 10 digits
all_digits [] all = tt
all_digits (b ∷ bs) all =
    let d = first_digit b bs all in
    let most = d.1 in
    let least = d.0 in
    let is = digit_is b d in
    (omega arith, all_digits bs (other_digits b bs all))

pub numeral : (v : Text) → IsNumber v → IsNumeral 10 v
numeral v is = let some = is.some in (omega arith, all_digits v is.digits)

-- a number of nine digits fits every type
pub number_fits : (v : Text) → IsNumber v → digits_value 10 v < 2 ^ 32
number_fits v is =
    let below = digits_value-lt 10 v (all_digits v is.digits) in
    let most : 10 ^ length v ≤ 10 ^ 9 = pow-le-pow_right {n = 10} (omega arith) is.few in
    omega arith

-- ---- no sign stands first

abbrev head_of : Text → ℕ
head_of v = slice_index v 0

pub no_minus : (v : Text) → IsNumber v → (head_of v == 45) ≡ false
no_minus v is =
    let some = is.some in
    let first = is.digits 0 0 (omega arith) in
    let least = first.0 in
    grind (arith, nat_tests)

pub no_plus : (v : Text) → IsNumber v → (head_of v == 43) ≡ false
no_plus v is =
    let some = is.some in
    let first = is.digits 0 0 (omega arith) in
    let least = first.0 in
    grind (arith, nat_tests)

pub plus_off : (v : Text) → IsNumber v → without_leading_plus v ≡ v
plus_off v is = ap (λ (b : Bool). drop (cond b 1 0) v) (no_plus v is)

sign_off : (v : Text) → IsNumber v → without_leading_sign v ≡ v
sign_off v is = ap (λ (b : Bool). cond b (drop 1 v) (without_leading_plus v)) (no_minus v is) ∙ plus_off v is

strip_none : (v : Text) → (head_of v == 45) ≡ false → strip_byte 45 v ≡ None
strip_none [] e = refl
strip_none (b ∷ bs) e = ap (λ (t : Bool). cond t (Some bs) None) e

pub number_plain : (v : Text) → IsNumber v → IsPlain v
number_plain v is =
    let none = strip_none v (no_minus v is) in
    record {
      safe = not_dashes v (no_minus v is);
      no_long = ap (λ o. option_and_then long_of_rest (option_and_then (strip_byte 45) o)) none;
      no_short = ap (λ o. option_and_then short_of_rest o) none;
    }
  where
    not_dashes : (v : Text) → (head_of v == 45) ≡ false → bytes_eq v dashes ≡ false
    not_dashes [] e = refl
    not_dashes (b ∷ bs) e = ap (λ (t : Bool). t && bytes_eq bs (45 ∷ [])) e

pub minus_off : (v : Text) → IsNumber v → without_minus v ≡ v
minus_off v is = ap (λ o. unwrap_or o v) (strip_none v (no_minus v is))

-- ---- the range

signed_is : (v : Text) → IsNumber v → signed_digits_value 10 v ≡ pos (number_after 0 v)
signed_is v is =
    ap (λ (b : Bool). cond b (neg_ℤ (pos (digits_value 10 (without_leading_sign v)))) (pos (digits_value 10 (without_leading_sign v)))) (no_minus v is)
    ∙ ap (λ (t : Text). pos (digits_value 10 t)) (sign_off v is) ∙ ap pos (value_is v is)

fits : (n : ℕ) → n ≤ 100000 → FitsSigned w64 (pos n)
fits n few = record { sfits = omega arith }

in_order : (a b : ℕ) → a ≤ b → pos a ≤ℤ pos b
in_order a b le = omega (arith, ints)

below : (a b : ℕ) → pos a ≤ℤ pos b → a ≤ b
below a b le = omega (arith, ints)

pub accepted_number : (low high : ℕ) (v : Text) → high ≤ 100000 → IsNumber v → low ≤ number_after 0 v → number_after 0 v ≤ high → accepts false (Signed (pos low) (pos high)) v ≡ true
accepted_number low high v few is least most =
    let same = sym (signed_is v is) in
    Accepts-accepts false (Signed (pos low) (pos high)) v (
      subst (IsNumeral 10) (sym (sign_off v is)) (numeral v is),
      subst (FitsSigned w64) same (fits (number_after 0 v) (omega arith)),
      subst (λ (z : ℤ). pos low ≤ℤ z) same (in_order low (number_after 0 v) least),
      subst (λ (z : ℤ). z ≤ℤ pos high) same (in_order (number_after 0 v) high most),
    )

pub record IsInRange (low high n : ℕ) : Type 0 where
  pub least : low ≤ n
  pub most : n ≤ high

pub number_in_range : (low high : ℕ) (v : Text) → IsNumber v → accepts false (Signed (pos low) (pos high)) v ≡ true → IsInRange low high (number_after 0 v)
number_in_range low high v is e =
    let h = accepts-Accepts false (Signed (pos low) (pos high)) v e in
    let same = signed_is v is in
    record {
      least = below low (number_after 0 v) (subst (λ (z : ℤ). pos low ≤ℤ z) same h.2);
      most = below (number_after 0 v) high (subst (λ (z : ℤ). z ≤ℤ pos high) same h.3);
    }
