-- Numbers of at most six digits.
use Rattle.std.proofs.Common.{◌≡◌, ◌≤◌, ◌<◌, ◌+◌, ◌-◌, ◌*◌, ◌^◌, ◌&&◌, ℕ, zero, suc, Bool, true, nat_lt, nat_le, if◌then◌else◌, List, [], ◌∷◌, Some, None, length, refl, sym, ap, ◌∙◌, arith}
use Rattle.std.specs.List.{list_all}
use Rattle.std.proofs.lemmas.Bool.Decides.{nat_tests}
use Rattle.script_format.specs.Words.{is_digit, number_from, number_in}

-- a digit more: at most six are below a million
pub small_more : (n d i : ℕ) → i < 6 → n < 10 ^ i → d < 10 → n * 10 + d < 10 ^ (i + 1)
small_more n d zero l h k = omega arith
small_more n d (suc zero) l h k = omega arith
small_more n d (suc (suc zero)) l h k = omega arith
small_more n d (suc (suc (suc zero))) l h k = omega arith
small_more n d (suc (suc (suc (suc zero)))) l h k = omega arith
small_more n d (suc (suc (suc (suc (suc zero))))) l h k = omega arith
small_more n d (suc (suc (suc (suc (suc (suc i)))))) l h k = absurd (omega arith)

pub digit_range : (d : ℕ) → is_digit d ≡ true → (48 ≤ d) × (d ≤ 57)
digit_range d e = (grind (arith, nat_tests), grind (arith, nat_tests))

pub number_more : (n d : ℕ) (ds : List ℕ) → number_from n (d ∷ ds) ≡ number_from (n * 10 + (d - 48)) ds
unfolding number_from
number_more n d ds = refl

pub number_end : (n : ℕ) → number_from n [] ≡ n
unfolding number_from
number_end n = refl

pub digits_more : (d : ℕ) (ds : List ℕ) → is_digit d ≡ true → list_all is_digit (d ∷ ds) ≡ list_all is_digit ds
digits_more d ds e = ap (λ (b : Bool). b && list_all is_digit ds) e

pub number_is : (word : List ℕ) (n : ℕ) → 0 < length word → length word ≤ 6 → true ≡ list_all is_digit word → n ≡ number_from 0 word → Some n ≡ number_in word
number_is word n some few digits value =
    let a : nat_lt 0 (length word) ≡ true = grind (arith, nat_tests) in
    let b : nat_le (length word) 6 ≡ true = grind (arith, nat_tests) in
    let all : true ≡ (nat_lt 0 (length word) && nat_le (length word) 6 && list_all is_digit word) =
    ap (λ (x : Bool). x && true && true) (sym a) ∙ ap (λ (x : Bool). nat_lt 0 (length word) && x && true) (sym b) ∙ ap (λ (x : Bool). nat_lt 0 (length word) && nat_le (length word) 6 && x) digits in
    ap (λ (m : ℕ). Some m) value ∙ ap (λ (x : Bool). if x then Some (number_from 0 word) else None) all
