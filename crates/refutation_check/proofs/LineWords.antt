-- The words of a line, from its front.
use Rattle.std.proofs.Common.{◌≡◌, ◌==◌, ◌≤◌, ◌<◌, ◌+◌, ◌-◌, ℕ, Bool, true, false, not, cond, if◌then◌else◌, List, [], ◌∷◌, ◌++◌, length, filter, refl, sym, ap, ◌∙◌, arith, inl, inr}
use Rattle.std.specs.List.{slice_split, onto_first}
use Rattle.std.proofs.lemmas.Bool.{cases_Bool}
use Rattle.std.proofs.lemmas.Bool.Decides.{nat_tests}
use Rattle.refutation_check.specs.ProofText.{words_in}
use Rattle.refutation_check.specs.Scanned.{behind_spaces}

has_bytes : List ℕ → Bool
has_bytes word = not (length word == 0)

parts : List ℕ → List (List ℕ)
parts line = slice_split (λ b. b == 32) line

-- at a space
pub at_space : (b : ℕ) (bytes : List ℕ) → (b == 32) ≡ true → words_in (b ∷ bytes) ≡ words_in bytes
unfolding has_bytes parts
at_space b bytes e = ap (λ t. filter has_bytes (cond t ([] ∷ parts bytes) (onto_first b (parts bytes)))) e

-- spaces at the front make no word
pub words_behind_spaces : (bytes : List ℕ) → words_in (behind_spaces bytes) ≡ words_in bytes
words_behind_spaces [] = refl
words_behind_spaces (b ∷ bytes) =
    elim (cases_Bool (b == 32)) [
      | inl holds ↦ rw holds (words_behind_spaces bytes)
      | inr fails ↦ ap (λ t. words_in (if t then behind_spaces bytes else b ∷ bytes)) fails
    ]

pub length-behind_spaces : (bytes : List ℕ) → length (behind_spaces bytes) ≤ length bytes
length-behind_spaces [] = omega arith
length-behind_spaces (b ∷ bytes) =
    let rest = length-behind_spaces bytes in
    elim (cases_Bool (b == 32)) [
      | inl holds ↦ rw holds (omega arith)
      | inr fails ↦ rw fails (omega arith)
    ]

-- what stands behind spaces doesn't begin with one
pub no_space_first : (bytes rest : List ℕ) (b : ℕ) → behind_spaces bytes ≡ b ∷ rest → (b == 32) ≡ false
no_space_first [] rest b e = absurd (omega (arith, ap length e))
no_space_first (c ∷ bytes) rest b e =
    elim (cases_Bool (c == 32)) [
      | inl holds ↦ no_space_first bytes rest b (sym (ap (λ t. cond t (behind_spaces bytes) (c ∷ bytes)) holds) ∙ e)
      | inr fails ↦ let same : c ∷ bytes ≡ b ∷ rest = sym (ap (λ t. cond t (behind_spaces bytes) (c ∷ bytes)) fails) ∙ e in
          let first : c ≡ b = cc in ap (λ x. x == 32) (sym first) ∙ fails
    ]

-- the bytes of the word at the front, and what stands behind them
abbrev pub front_word : List ℕ → List ℕ
front_word [] = []
front_word (b ∷ bytes) = if b == 32 then [] else b ∷ front_word bytes

abbrev pub behind_word : List ℕ → List ℕ
behind_word [] = []
behind_word (b ∷ bytes) = if b == 32 then b ∷ bytes else behind_word bytes

record Split (bytes : List ℕ) : Type 0 where
  others : List (List ℕ)
  first : parts bytes ≡ front_word bytes ∷ others
  behind : filter has_bytes others ≡ words_in (behind_word bytes)

split_of : (bytes : List ℕ) → Split bytes
unfolding has_bytes parts
split_of [] = record { others = []; first = refl; behind = refl }
split_of (b ∷ bytes) =
    let rest = split_of bytes in
    elim (cases_Bool (b == 32)) [
      | inl holds ↦ record {
        others = parts bytes;
        first = rw holds refl;
        behind = rw holds (sym (at_space b bytes holds));
      }
      | inr fails ↦ record {
        others = rest.others;
        first = rw fails (ap (onto_first b) rest.first);
        behind = rw fails rest.behind;
      }
    ]

-- the first word of a line that begins with none
pub words_from : (b : ℕ) (bytes : List ℕ) → (b == 32) ≡ false → words_in (b ∷ bytes) ≡ (b ∷ front_word bytes) ∷ words_in (behind_word bytes)
unfolding has_bytes parts
words_from b bytes fails =
    let s = split_of bytes in
    let some : not (length (b ∷ front_word bytes) == 0) ≡ true = grind (arith, nat_tests) in
    ap (λ t. filter has_bytes (cond t ([] ∷ parts bytes) (onto_first b (parts bytes)))) fails
    ∙ ap (λ ps. filter has_bytes (onto_first b ps)) s.first
    ∙ ap (λ t. cond t ((b ∷ front_word bytes) ∷ filter has_bytes s.others) (filter has_bytes s.others)) some
    ∙ ap (λ ws. (b ∷ front_word bytes) ∷ ws) s.behind
