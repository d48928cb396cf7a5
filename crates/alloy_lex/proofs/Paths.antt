-- A slash and a name behind a name.
use Rattle.std.proofs.Common.{◌≡◌, ℕ, zero, suc, ◌+◌, ◌<◌, Bool, true, false, cond, List, [], ◌∷◌, ◌++◌, length, take, drop, get_or, refl, sym, ap, ◌∙◌, arith, one-add}
use Rattle.std.specs.Prelude.{◌==◌, ◌&&◌, not}
use Rattle.std.specs.List.{list_all, prefix_len}
use Rattle.std.proofs.lemmas.List.{take-append-drop, length-take-le}
use Rattle.std.proofs.lemmas.List.Sums.{prefix_len-le-length}
use Rattle.alloy_lex.specs.Words.{is_word}
use Rattle.alloy_lex.specs.Fronts.{slash, is_letter, is_name_byte, second_len}
use Rattle.alloy_lex.specs.Reading.{Ends, IsRun, IsName, NoSecond}
use Rattle.alloy_lex.proofs.Runs.{name_has_some}

pub drop_front : (xs ys : List ℕ) → drop (length xs) (xs ++ ys) ≡ ys
drop_front [] ys = refl
drop_front (x ∷ xs) ys = drop_front xs ys

pub take_front : (xs ys : List ℕ) → take (length xs) (xs ++ ys) ≡ xs
take_front [] ys = refl
take_front (x ∷ xs) ys = ap (λ (zs : List ℕ). x ∷ zs) (take_front xs ys)

-- ---- runs

run_all_step : (p : ℕ → Bool) (t : Bool) (n b : ℕ) (bs : List ℕ) → p b ≡ t → list_all p (take n bs) ≡ true → list_all p (take (cond t (1 + n) 0) (b ∷ bs)) ≡ true
run_all_step p true n b bs e more = rw (one-add, e) more
run_all_step p false n b bs e more = refl

run_all : (p : ℕ → Bool) (bs : List ℕ) → list_all p (take (prefix_len p bs) bs) ≡ true
run_all p [] = refl
run_all p (b ∷ bs) = run_all_step p (p b) (prefix_len p bs) b bs refl (run_all p bs)

run_ends_step : (p : ℕ → Bool) (t : Bool) (n b : ℕ) (bs : List ℕ) → p b ≡ t → Ends p (drop n bs) → Ends p (drop (cond t (1 + n) 0) (b ∷ bs))
run_ends_step p true n b bs e more = rw one-add more
run_ends_step p false n b bs e more = e

run_ends : (p : ℕ → Bool) (bs : List ℕ) → Ends p (drop (prefix_len p bs) bs)
run_ends p [] = tt
run_ends p (b ∷ bs) = run_ends_step p (p b) (prefix_len p bs) b bs refl (run_ends p bs)

pub run_of : (p : ℕ → Bool) (bs : List ℕ) → IsRun p (take (prefix_len p bs) bs) (drop (prefix_len p bs) bs)
run_of p bs = (run_all p bs, run_ends p bs)

pub first_taken : (n : ℕ) (bs : List ℕ) → 0 < n → get_or (take n bs) 0 0 ≡ get_or bs 0 0
first_taken zero bs some = absurd (omega arith)
first_taken (suc n) [] some = refl
first_taken (suc n) (b ∷ bs) some = refl

run_len_step : (p : ℕ → Bool) (t : Bool) (b n m : ℕ) (rest : Bool) → p b ≡ t → (t && rest) ≡ true → (rest ≡ true → n ≡ m) → cond t (1 + n) 0 ≡ suc m
run_len_step p true b n m rest e all more = let same = more all in omega arith
run_len_step p false b n m rest e all more = absurd cc

run_none : (p : ℕ → Bool) (rest : List ℕ) → Ends p rest → prefix_len p rest ≡ 0
run_none p [] ends = refl
run_none p (b ∷ bs) ends = rw ends refl

pub run_len : (p : ℕ → Bool) (text rest : List ℕ) → list_all p text ≡ true → Ends p rest → prefix_len p (text ++ rest) ≡ length text
run_len p [] rest all ends = run_none p rest ends
run_len p (b ∷ bs) rest all ends = run_len_step p (p b) b (prefix_len p (bs ++ rest)) (length bs) (list_all p bs) refl all (λ e. run_len p bs rest e ends)

-- ---- a name is taken

pub named : (bs : List ℕ) → is_letter (get_or bs 0 0) ≡ true → is_word (take (prefix_len is_name_byte bs) bs) ≡ false → IsName (take (prefix_len is_name_byte bs) bs) (drop (prefix_len is_name_byte bs) bs)
named bs letter other = (ap is_letter (first_taken (prefix_len is_name_byte bs) bs (name_has_some bs letter)) ∙ letter, run_of is_name_byte bs, other)

-- ---- a slash and a name

-- they stand there, and take so many bytes and one more
pub record Second (text : List ℕ) (n : ℕ) : Type 0 where
  pub name : List ℕ
  pub rest : List ℕ
  pub parts : text ≡ slash ∷ (name ++ rest)
  pub is : IsName name rest
  pub long : length name ≡ n

-- what is told of the bytes: a slash first, a letter behind it, and a word or none
abbrev second_at : Bool → Bool → Bool → ℕ → ℕ
second_at first letter word n = cond (first && (letter && not word)) (n + 1) 0

tests : (first letter word : Bool) (n m : ℕ) → second_at first letter word n ≡ suc m → (first ≡ true) × (letter ≡ true) × (word ≡ false) × (n ≡ m)
tests true true false n m e = (refl, refl, refl, omega arith)
tests true true true n m e = absurd cc
tests true false word n m e = absurd cc
tests false letter word n m e = absurd cc

test_is : (x y : ℕ) → (x == y) ≡ true → x ≡ y
test_is x y e = grind arith

pub second_found : (text : List ℕ) (m : ℕ) → second_len text ≡ suc m → Second text m
unfolding second_len
second_found [] m e = absurd cc
second_found (b ∷ bs) m e =
    let n = prefix_len is_name_byte bs in
    let t = tests (b == slash) (is_letter (get_or bs 0 0)) (is_word (take n bs)) n m e in
    let first : b ≡ slash = test_is b slash t.0 in
    record {
      name = take n bs;
      rest = drop n bs;
      parts = ap (λ (c : ℕ). c ∷ bs) first ∙ ap (λ (xs : List ℕ). slash ∷ xs) (sym (take-append-drop n bs));
      is = named bs t.1 t.2;
      long = length-take-le n bs (prefix_len-le-length is_name_byte bs) ∙ t.3;
    }

abbrev told : Bool → List ℕ → ℕ → ℕ
told letter bs n = second_at true letter (is_word (take n bs)) n

pub second_back : (name rest : List ℕ) → IsName name rest → second_len (slash ∷ (name ++ rest)) ≡ length name + 1
unfolding second_len
second_back [] rest is = let letter = is.0 in absurd cc
second_back (a ∷ bs) rest is =
    ap (λ (t : Bool). told t (a ∷ bs ++ rest) (prefix_len is_name_byte (a ∷ bs ++ rest))) is.0
    ∙ ap (λ (n : ℕ). told true (a ∷ bs ++ rest) n) (run_len is_name_byte (a ∷ bs) rest is.1.0 is.1.1)
    ∙ ap (λ (xs : List ℕ). second_at true true (is_word xs) (length (a ∷ bs))) (take_front (a ∷ bs) rest)
    ∙ ap (λ (t : Bool). second_at true true t (length (a ∷ bs))) is.2

-- none stands there
pub none_stands : (text : List ℕ) → second_len text ≡ 0 → NoSecond text
none_stands text none name rest parts is =
    let long : second_len text ≡ length name + 1 = ap (λ (xs : List ℕ). second_len xs) parts ∙ second_back name rest is in
    omega arith

none_of : (n : ℕ) (text : List ℕ) → second_len text ≡ n → NoSecond text → n ≡ 0
none_of zero text e alone = refl
none_of (suc n) text e alone = let found = second_found text n e in absurd (alone found.name found.rest found.parts found.is)

pub no_length : (text : List ℕ) → NoSecond text → second_len text ≡ 0
no_length text alone = none_of (second_len text) text refl alone
