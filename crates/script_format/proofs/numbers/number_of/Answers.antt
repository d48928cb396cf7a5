use Rattle.std.proofs.Common.{◌≡◌, ◌<◌, ◌+◌, ◌-◌, ◌*◌, ℕ, true, List, [], length, drop, get_or, sym, ap, ◌∙◌, rules, arith}
use Rattle.std.proofs.Math.ListN.{drop_of_length-le}
use Rattle.std.proofs.lemmas.List.{drop_more}
use Rattle.std.specs.List.{list_all}
use Rattle.script_format.specs.Words.{is_digit, number_from, number_in}
use Rattle.script_format.proofs.Digits.{small_more, digit_range, number_more, number_end, digits_more, number_is}
use Rattle.script_format.proofs.numbers.number_of.Goals as goal

pub loop-digit-preserved : goal.loop-digit-preserved
loop-digit-preserved c =
    let xs = c.as_bytes-digits.result.now in
    let i = c.loop-digit.digit-index in
    let n = c.loop-digit.number in
    let d = get_or xs i 0 in
    let below : i < length xs = omega (arith, c.loop-digit-test.true, c.loop-digit.auto.digit-index-end) in
    let is : is_digit d ≡ true = search rules in
    let range = digit_range d is in
    let value : c.from.result ≡ d - 48 = search rules in
    let next = drop_more xs i 0 below in
    record {
      few = c.loop-digit.invariant.few;
      digits_left = sym (digits_more d (drop (i + 1) xs) is) ∙ ap (λ (ds : List ℕ). list_all is_digit ds) (sym next) ∙ c.loop-digit.invariant.digits_left;
      value = ap (λ (m : ℕ). number_from (n * 10 + m) (drop (i + 1) xs)) value ∙ sym (number_more n d (drop (i + 1) xs)) ∙ ap (λ (ds : List ℕ). number_from n ds) (sym next) ∙ c.loop-digit.invariant.value;
      small = small_more n c.from.result i (omega (arith, c.loop-digit.invariant.few)) c.loop-digit.invariant.small (omega (arith, range.0, range.1, value));
    }

pub returns : goal.returns
returns c =
    let xs = c.as_bytes-digits.result.now in
    let i = c.loop-digit.digit-index in
    let end : drop i xs ≡ [] = drop_of_length-le xs (omega (arith, c.loop-digit-test.false, c.loop-digit.auto.digit-index-end)) in
    let same : xs ≡ c.args.word.now = search rules in
    let some : 0 < length xs = search rules in
    let digits : true ≡ list_all is_digit xs = ap (λ (ds : List ℕ). list_all is_digit ds) (sym end) ∙ c.loop-digit.invariant.digits_left in
    let value : c.loop-digit.number ≡ number_from 0 xs = sym (number_end c.loop-digit.number) ∙ ap (λ (ds : List ℕ). number_from c.loop-digit.number ds) (sym end) ∙ c.loop-digit.invariant.value in
    number_is xs c.loop-digit.number some c.loop-digit.invariant.few digits value ∙ ap number_in same
