-- How the words of a proof text are read.
use Rattle.std.proofs.Common.{◌≡◌, ◌≢◌, ◌==◌, ◌≤◌, ◌<◌, ◌+◌, ◌-◌, ◌*◌, ◌&&◌, ◌⊎◌, ℕ, Bool, true, false, not, cond, if◌then◌else◌, List, [], ◌∷◌, ◌++◌, codes, drop, take, length, min, refl, sym, subst, ap, ◌∙◌, arith, inl, inr, get_or}
use Rattle.std.proofs.lemmas.Bool.{cases_Bool}
use Rattle.std.proofs.lemmas.List.{take_all}
use Rattle.std.proofs.lemmas.Bool.Decides.{nat_tests}
use Rattle.std.proofs.lemmas.List.Elements.{All-nil, All-cons, All-head, All-tail}
use Rattle.std.specs.Prelude.{All}
use Rattle.refutation_check.specs.declared.proof_text.word.Word.{Word}
use Rattle.refutation_check.specs.declared.proof_text.word.Word.TheVariants.{Clause, Step, End, Number, Negative, Other}
use Rattle.refutation_check.specs.ProofText.{words_in, IsDigit, IsNumber, IsLiteral, number_after, number_of}
use Rattle.refutation_check.specs.Scanned.{is_digit, digits_in, behind_digits, ends_before, capped, with_digit, read_after, IsRead, IsFirstWord}
use Rattle.refutation_check.proofs.LineWords.{front_word, behind_word, words_from}

-- ---- digits

digit_is : (b : ℕ) → is_digit b ≡ true → IsDigit b
digit_is b e = (grind arith, grind arith)

is_digit_is : (b : ℕ) → IsDigit b → is_digit b ≡ true
is_digit_is b (low, high) = grind (arith, nat_tests)

no_space_digit : (b : ℕ) → is_digit b ≡ true → (b == 32) ≡ false
no_space_digit b e = let d = digit_is b e in let low = d.0 in grind (arith, nat_tests)

pub all_digits : (bytes : List ℕ) → All IsDigit (digits_in bytes)
all_digits [] = All-nil IsDigit
all_digits (b ∷ bytes) =
    elim (cases_Bool (is_digit b)) [
      | inl holds ↦ rw holds (All-cons IsDigit b (digits_in bytes) (digit_is b holds) (all_digits bytes))
      | inr fails ↦ rw fails (All-nil IsDigit)
    ]

pub length-behind_digits : (bytes : List ℕ) → length (behind_digits bytes) ≤ length bytes
length-behind_digits [] = omega arith
length-behind_digits (b ∷ bytes) =
    let rest = length-behind_digits bytes in
    elim (cases_Bool (is_digit b)) [
      | inl holds ↦ rw holds (omega arith)
      | inr fails ↦ rw fails (omega arith)
    ]

-- ---- numbers

cap_step : (n d : ℕ) → min (min n 2147483648 * 10 + d) 2147483648 ≡ min (n * 10 + d) 2147483648
cap_step n d = grind (arith, nat_tests)

-- what is read is the number, as far as it isn't too large
pub read_is_capped : (n : ℕ) (bytes : List ℕ) → read_after (capped n) bytes ≡ capped (number_after n (digits_in bytes))
read_is_capped n [] = refl
read_is_capped n (b ∷ bytes) =
    elim (cases_Bool (is_digit b)) [
      | inl holds ↦ rw holds (ap (λ m. read_after m bytes) (cap_step n (b - 48)) ∙ read_is_capped (n * 10 + (b - 48)) bytes)
      | inr fails ↦ rw fails refl
    ]

-- ---- where a word ends

record Ended (bytes : List ℕ) : Type 0 where
  word : front_word bytes ≡ digits_in bytes
  rest : behind_word bytes ≡ behind_digits bytes

-- where a word ends behind its digits, these are all of it
digits_are_word : (bytes : List ℕ) → ends_before (behind_digits bytes) ≡ true → Ended bytes
digits_are_word [] e = record { word = refl; rest = refl }
digits_are_word (b ∷ bytes) e =
    elim (cases_Bool (is_digit b)) [
      | inl holds ↦
          let space = no_space_digit b holds in
          let inner = digits_are_word bytes (sym (ap (λ t. ends_before (cond t (behind_digits bytes) (b ∷ bytes))) holds) ∙ e) in
          record {
            word = rw (space, holds) (ap (λ w. b ∷ w) inner.word);
            rest = rw (space, holds) inner.rest;
          }
      | inr fails ↦
          let space : (b == 32) ≡ true = sym (ap (λ t. ends_before (cond t (behind_digits bytes) (b ∷ bytes))) fails) ∙ e in
          record {
            word = rw (space, fails) refl;
            rest = rw (space, fails) refl;
          }
    ]

-- where all of a word is digits, it ends behind them
word_is_digits : (bytes : List ℕ) → All IsDigit (front_word bytes) → ends_before (behind_digits bytes) ≡ true
word_is_digits [] all = refl
word_is_digits (b ∷ bytes) all =
    elim (cases_Bool (b == 32)) [
      | inl space ↦
          let digit : is_digit b ≡ false = grind (arith, nat_tests) in
          rw digit space
      | inr fails ↦
          let all' : All IsDigit (b ∷ front_word bytes) = subst (λ (t : Bool). All IsDigit (if t then [] else b ∷ front_word bytes)) fails all in
          let digit = is_digit_is b (All-head IsDigit b (front_word bytes) all') in
          rw digit (word_is_digits bytes (All-tail IsDigit b (front_word bytes) all'))
    ]

at_end : (bytes : List ℕ) → ends_before bytes ≡ true → (front_word bytes ≡ []) × (behind_word bytes ≡ bytes)
at_end [] e = (refl, refl)
at_end (b ∷ bytes) e = (rw e refl, rw e refl)

not_at_end : (bytes : List ℕ) → ends_before bytes ≡ false → front_word bytes ≢ []
not_at_end [] e = absurd (cc)
not_at_end (b ∷ bytes) e = λ is. let more : b ∷ front_word bytes ≡ [] = sym (ap (λ t. cond t [] (b ∷ front_word bytes)) e) ∙ is in absurd (omega (arith, ap length more))

-- ---- first words

first_word : (b : ℕ) (bytes : List ℕ) (read : Word) (rest : List ℕ) → (b == 32) ≡ false → IsRead (b ∷ front_word bytes) read
    → (read ≢ Other → words_in (behind_word bytes) ≡ words_in rest) → length rest ≤ length bytes → IsFirstWord (b ∷ bytes) read rest
first_word b bytes read rest fails is behind short =
    record { word = b ∷ front_word bytes; others = words_in (behind_word bytes); there = words_from b bytes fails; is_read = is; behind = behind; shorter = omega arith }

-- a word that isn't one of these
other_word : (b : ℕ) (bytes rest : List ℕ) → (b == 32) ≡ false → IsRead (b ∷ front_word bytes) Other → length rest ≤ length bytes → IsFirstWord (b ∷ bytes) Other rest
other_word b bytes rest fails is short = first_word b bytes Other rest fails is (λ bad. absurd (bad refl)) short

first_differs : (b c : ℕ) (word : List ℕ) → b ≢ c → b ∷ word ≢ c ∷ []
first_differs b c word fails e = fails (cc)

capped_small : (n : ℕ) → n ≤ 2147483648 → capped n ≡ n
capped_small n small = grind (arith, nat_tests)

value_is : (first : ℕ) (bytes : List ℕ) → 49 ≤ first → first ≤ 57 → read_after (first - 48) bytes ≡ capped (number_of (first ∷ digits_in bytes))
value_is first bytes low high =
    let start : first - 48 ≡ 0 * 10 + (first - 48) = omega arith in
    ap (λ n. read_after n bytes) (sym (capped_small (first - 48) (omega arith))) ∙ read_is_capped (first - 48) bytes ∙ ap (λ n. capped (number_after n (digits_in bytes))) start

not_a_number : (first : ℕ) (bytes : List ℕ) → ends_before (behind_digits bytes) ≡ false → IsNumber (first ∷ front_word bytes) → ⊥
not_a_number first bytes fails number = let holds = word_is_digits bytes number.2 in absurd (cc)

is_a_number : (first : ℕ) (bytes : List ℕ) → 49 ≤ first → first ≤ 57 → ends_before (behind_digits bytes) ≡ true → IsNumber (first ∷ front_word bytes)
is_a_number first bytes low high holds = (low, high, subst (λ (w : List ℕ). All IsDigit w) (sym (digits_are_word bytes holds).word) (all_digits bytes))

-- a digit from 1
pub number_first : (first : ℕ) (bytes : List ℕ) → 49 ≤ first → first ≤ 57
    → IsFirstWord (first ∷ bytes) (if ends_before (behind_digits bytes) then Number (read_after (first - 48) bytes) else Other) (behind_digits bytes)
number_first first bytes low high =
    let fails : (first == 32) ≡ false = grind (arith, nat_tests) in
    elim (cases_Bool (ends_before (behind_digits bytes))) [
      | inl holds ↦
          let e = digits_are_word bytes holds in
          rw holds (first_word first bytes (Number (read_after (first - 48) bytes)) (behind_digits bytes) fails
          (is_a_number first bytes low high holds, value_is first bytes low high ∙ ap (λ w. capped (number_of (first ∷ w))) (sym e.word))
          (λ _. ap words_in e.rest) (length-behind_digits bytes))
      | inr not_yet ↦
          rw not_yet (other_word first bytes (behind_digits bytes) fails (
            first_differs first 99 (front_word bytes) (λ e. omega arith),
            first_differs first 115 (front_word bytes) (λ e. omega arith),
            first_differs first 48 (front_word bytes) (λ e. omega arith),
            λ literal. elim literal [
              | inl number ↦ not_a_number first bytes not_yet number
              | inr minus ↦ let is = minus.0 in absurd (omega arith)
            ],
          )
          (length-behind_digits bytes))
    ]

-- `-` and a digit from 1
pub negative_first : (first : ℕ) (bytes : List ℕ) → 49 ≤ first → first ≤ 57
    → IsFirstWord (45 ∷ first ∷ bytes) (if ends_before (behind_digits bytes) then Negative (read_after (first - 48) bytes) else Other) (behind_digits bytes)
negative_first first bytes low high =
    let fails : (first == 32) ≡ false = grind (arith, nat_tests) in
    let word : front_word (first ∷ bytes) ≡ first ∷ front_word bytes = rw fails refl in
    let rest : behind_word (first ∷ bytes) ≡ behind_word bytes = rw fails refl in
    let shorter = length-behind_digits bytes in
    elim (cases_Bool (ends_before (behind_digits bytes))) [
      | inl holds ↦
          let e = digits_are_word bytes holds in
          rw holds (first_word 45 (first ∷ bytes) (Negative (read_after (first - 48) bytes)) (behind_digits bytes) refl (
            first ∷ front_word bytes,
            ap (λ w. 45 ∷ w) word,
            is_a_number first bytes low high holds,
            value_is first bytes low high ∙ ap (λ w. capped (number_of (first ∷ w))) (sym e.word),
          )
          (λ _. ap words_in (rest ∙ e.rest)) (omega arith))
      | inr not_yet ↦
          rw not_yet (other_word 45 (first ∷ bytes) (behind_digits bytes) refl (
            first_differs 45 99 (front_word (first ∷ bytes)) (λ e. omega arith),
            first_differs 45 115 (front_word (first ∷ bytes)) (λ e. omega arith),
            first_differs 45 48 (front_word (first ∷ bytes)) (λ e. omega arith),
            λ literal. elim literal [
              | inl number ↦ let is = number.0 in absurd (omega arith)
              | inr minus ↦ not_a_number first bytes not_yet (subst (λ (w : List ℕ). IsNumber w) word minus.1)
            ],
          )
          (omega arith))
    ]

-- no number begins so
no_number : (bytes : List ℕ) → ((first : ℕ) (rest : List ℕ) → bytes ≡ first ∷ rest → 49 ≤ first → first ≤ 57 → ⊥) → IsNumber (front_word bytes) → ⊥
no_number [] none number = number
no_number (b ∷ bytes) none number =
    elim (cases_Bool (b == 32)) [
      | inl space ↦ subst (λ (t : Bool). IsNumber (if t then [] else b ∷ front_word bytes)) space number
      | inr fails ↦
          let is : IsNumber (b ∷ front_word bytes) = subst (λ (t : Bool). IsNumber (if t then [] else b ∷ front_word bytes)) fails number in
          none b bytes refl is.0 is.1
    ]

-- `-` and no digit from 1
pub minus_alone : (bytes : List ℕ) → ((first : ℕ) (rest : List ℕ) → bytes ≡ first ∷ rest → 49 ≤ first → first ≤ 57 → ⊥) → IsFirstWord (45 ∷ bytes) Other bytes
minus_alone bytes none =
    other_word 45 bytes bytes refl (
      first_differs 45 99 (front_word bytes) (λ e. omega arith),
      first_differs 45 115 (front_word bytes) (λ e. omega arith),
      first_differs 45 48 (front_word bytes) (λ e. omega arith),
      λ literal. elim literal [
        | inl number ↦ let is = number.0 in absurd (omega arith)
        | inr minus ↦ no_number bytes none minus.1
      ],
    )
    (omega arith)

longer_differs : (b c : ℕ) (word : List ℕ) → word ≢ [] → b ∷ word ≢ c ∷ []
longer_differs b c word some e = some (cc)

-- a byte that alone is a word
alone : (first : ℕ) (bytes : List ℕ) (read : Word) → (first == 32) ≡ false → IsRead (first ∷ []) read → (first < 49) ⊎ (57 < first) → first ≢ 45
    → IsFirstWord (first ∷ bytes) (if ends_before bytes then read else Other) bytes
alone first bytes read fails is range minus =
    elim (cases_Bool (ends_before bytes)) [
      | inl holds ↦
          let e = at_end bytes holds in
          rw holds (first_word first bytes read bytes fails (subst (λ (w : List ℕ). IsRead (first ∷ w) read) (sym e.0) is) (λ _. ap words_in e.1) (omega arith))
      | inr not_yet ↦
          let some = not_at_end bytes not_yet in
          rw not_yet (other_word first bytes bytes fails (
            longer_differs first 99 (front_word bytes) some,
            longer_differs first 115 (front_word bytes) some,
            longer_differs first 48 (front_word bytes) some,
            λ literal. elim literal [
              | inl number ↦ let low = number.0 in let high = number.1 in elim range [ inl a ↦ absurd (omega arith) | inr a ↦ absurd (omega arith) ]
              | inr is ↦ absurd (minus is.0)
            ],
          )
          (omega arith))
    ]

pub zero_first : (bytes : List ℕ) → IsFirstWord (48 ∷ bytes) (if ends_before bytes then End else Other) bytes
zero_first bytes = alone 48 bytes End refl refl (inl (omega arith)) (λ e. absurd (omega arith))

pub clause_first : (bytes : List ℕ) → IsFirstWord (99 ∷ bytes) (if ends_before bytes then Clause else Other) bytes
clause_first bytes = alone 99 bytes Clause refl refl (inr (omega arith)) (λ e. absurd (omega arith))

pub step_first : (bytes : List ℕ) → IsFirstWord (115 ∷ bytes) (if ends_before bytes then Step else Other) bytes
step_first bytes = alone 115 bytes Step refl refl (inr (omega arith)) (λ e. absurd (omega arith))

-- another byte
pub other_first : (first : ℕ) (bytes : List ℕ) → first ≢ 32 → first ≢ 48 → first ≢ 99 → first ≢ 115 → first ≢ 45 → (49 ≤ first → first ≤ 57 → ⊥) → IsFirstWord (first ∷ bytes) Other bytes
other_first first bytes space zero clause step minus digit =
    other_word first bytes bytes (grind (arith, nat_tests)) (
      first_differs first 99 (front_word bytes) clause,
      first_differs first 115 (front_word bytes) step,
      first_differs first 48 (front_word bytes) zero,
      λ literal. elim literal [
        | inl number ↦ digit number.0 number.1
        | inr is ↦ minus is.0
      ],
    )
    (omega arith)

-- ---- the first word behind spaces

pub behind_spaces_first : (bytes others : List ℕ) (read : Word) (rest : List ℕ) → words_in others ≡ words_in bytes → length others ≤ length bytes → IsFirstWord others read rest → IsFirstWord bytes read rest
behind_spaces_first bytes others read rest same short is =
    record { word = is.word; others = is.others; there = sym same ∙ is.there; is_read = is.is_read; behind = is.behind; shorter = let s = is.shorter in omega arith }

-- the bytes of a text that has some
pub front_is : (bytes : List ℕ) → 0 < length bytes → get_or bytes 0 0 ∷ take (length bytes - 1) (drop 1 bytes) ≡ bytes
front_is [] some = absurd (omega arith)
front_is (b ∷ bytes) some = ap (λ xs. b ∷ xs) (take_all (length (b ∷ bytes) - 1) bytes (omega arith))

pub none_is : (bytes : List ℕ) → length bytes < 1 → bytes ≡ []
none_is [] none = refl
none_is (b ∷ bytes) none = absurd (omega arith)
