-- Symbols at the front of a text.
use Rattle.std.proofs.Common.{◌≡◌, ℕ, zero, suc, ◌<◌, ◌≤◌, Bool, true, false, cond, List, [], ◌∷◌, length, take, get_or, refl, sym, ap, subst, ◌∙◌, arith}
use Rattle.std.specs.Prelude.{max, nat_eq, nat_le, nat_lt, ◌||◌, ◌&&◌}
use Rattle.std.specs.List.{list_any, list_all, starts_with}
use Rattle.std.specs.Str.{bytes_eq, IsAscii}
use Rattle.std.proofs.lemmas.Slice.Eq.{bytes_eq-Decides}
use Rattle.alloy_lex.specs.Words.{symbols, longest_front, symbol_len}

-- three bytes decide
pub first_three : (bs : List ℕ) → symbol_len (get_or bs 0 0 ∷ get_or bs 1 0 ∷ get_or bs 2 0 ∷ []) ≡ symbol_len bs
unfolding symbol_len
first_three [] = refl
first_three (a ∷ []) = refl
first_three (a ∷ b ∷ []) = refl
first_three (a ∷ b ∷ c ∷ bs) = refl

-- a text of the list, which the front of n bytes is
pub record Found (ss : List (List ℕ)) (text : List ℕ) (n : ℕ) : Type 0 where
  pub symbol : List ℕ
  pub same : take n text ≡ symbol
  pub long : length symbol ≡ n
  pub fits : n ≤ length text
  pub one : list_any (bytes_eq symbol) ss ≡ true

starts_is : (s text : List ℕ) → starts_with nat_eq text s ≡ true → s ≡ take (length s) text
starts_is s text e = (bytes_eq-Decides s (take (length s) text)).0 e

take_fits : (n : ℕ) (text : List ℕ) → length (take n text) ≤ length text
take_fits zero text = omega arith
take_fits (suc n) [] = omega arith
take_fits (suc n) (b ∷ bs) = let more = take_fits n bs in omega arith

found_first : (s text : List ℕ) (ss : List (List ℕ)) → starts_with nat_eq text s ≡ true → Found (s ∷ ss) text (length s)
found_first s text ss e =
    let is = starts_is s text e in
    let fits : length (take (length s) text) ≤ length text = take_fits (length s) text in
    let long : length s ≡ length (take (length s) text) = ap (λ (xs : List ℕ). length xs) is in
    let same : bytes_eq s s ≡ true = (bytes_eq-Decides s s).1 refl in
    record { symbol = s; same = sym is; long = refl; fits = omega arith; one = rw same refl }

or_true : (b : Bool) → (b || true) ≡ true
or_true true = refl
or_true false = refl

found_later : (s text : List ℕ) (ss : List (List ℕ)) (n : ℕ) → Found ss text n → Found (s ∷ ss) text n
found_later s text ss n f = record { symbol = f.symbol; same = f.same; long = f.long; fits = f.fits; one = rw f.one (or_true (bytes_eq f.symbol s)) }

longer_of : (t : Bool) (s text : List ℕ) (ss : List (List ℕ)) (n : ℕ) → nat_le n (length s) ≡ t → starts_with nat_eq text s ≡ true → (0 < n → Found ss text n) → Found (s ∷ ss) text (max (length s) n)
longer_of true s text ss n e starts more =
    let this : length s ≡ max (length s) n = grind arith in
    subst (λ (k : ℕ). Found (s ∷ ss) text k) this (found_first s text ss starts)
longer_of false s text ss n e starts more =
    let other : n ≡ max (length s) n = grind arith in
    let some : 0 < n = grind arith in
    subst (λ (k : ℕ). Found (s ∷ ss) text k) other (found_later s text ss n (more some))

found_of : (t : Bool) (s text : List ℕ) (ss : List (List ℕ)) (n : ℕ) → starts_with nat_eq text s ≡ t → (0 < n → Found ss text n) → 0 < cond t (max (length s) n) n → Found (s ∷ ss) text (cond t (max (length s) n) n)
found_of true s text ss n starts more some = longer_of (nat_le n (length s)) s text ss n refl starts more
found_of false s text ss n starts more some = found_later s text ss n (more some)

-- where one of the texts stands at the front, the longest of them does
pub longest_found : (ss : List (List ℕ)) (text : List ℕ) → 0 < longest_front ss text → Found ss text (longest_front ss text)
longest_found [] text some = absurd (omega arith)
longest_found (s ∷ ss) text some = found_of (starts_with nat_eq text s) s text ss (longest_front ss text) refl (longest_found ss text) some

fits_of : (n : ℕ) (bs : List ℕ) → (0 < n → n ≤ length bs) → n ≤ length bs
fits_of zero bs fits = omega arith
fits_of (suc n) bs fits = fits (omega arith)

pub symbol_fits : (bs : List ℕ) → symbol_len bs ≤ length bs
unfolding symbol_len
symbol_fits bs = fits_of (longest_front symbols bs) bs (λ some. (longest_found symbols bs some).fits)

-- ---- symbols are ASCII

abbrev is_ascii : List ℕ → Bool
is_ascii = list_all (λ b. nat_lt b 128)

both : (a b : Bool) → (a && b) ≡ true → (a ≡ true) × (b ≡ true)
both true b e = (refl, e)
both false b e = absurd cc

passes_of : (t : Bool) (p : List ℕ → Bool) (text s : List ℕ) (rest : Bool) → bytes_eq text s ≡ t → p s ≡ true → (rest ≡ true → p text ≡ true) → (t || rest) ≡ true → p text ≡ true
passes_of true p text s rest e ps more one = ap p ((bytes_eq-Decides text s).0 e) ∙ ps
passes_of false p text s rest e ps more one = more one

pub one_passes : (p : List ℕ → Bool) (text : List ℕ) (ss : List (List ℕ)) → list_all p ss ≡ true → list_any (bytes_eq text) ss ≡ true → p text ≡ true
one_passes p text [] all one = absurd cc
one_passes p text (s ∷ ss) all one =
    let parts = both (p s) (list_all p ss) all in
    passes_of (bytes_eq text s) p text s (list_any (bytes_eq text) ss) refl parts.0 (one_passes p text ss parts.1) one

ascii_from : (bs : List ℕ) → is_ascii bs ≡ true → IsAscii bs
ascii_from [] e i = omega arith
ascii_from (b ∷ bs) e zero = let parts = both (nat_lt b 128) (is_ascii bs) e in let small = parts.0 in grind arith
ascii_from (b ∷ bs) e (suc i) = let parts = both (nat_lt b 128) (is_ascii bs) e in ascii_from bs parts.1 i

ascii_of : (n : ℕ) (bs : List ℕ) → (0 < n → IsAscii (take n bs)) → IsAscii (take n bs)
ascii_of zero bs some = λ i. omega arith
ascii_of (suc n) bs some = some (omega arith)

pub symbol_is_ascii : (bs : List ℕ) → IsAscii (take (symbol_len bs) bs)
unfolding symbol_len
symbol_is_ascii bs = ascii_of (longest_front symbols bs) bs (λ some.
    let found = longest_found symbols bs some in
    subst (λ (xs : List ℕ). IsAscii xs) (sym found.same) (ascii_from found.symbol (one_passes is_ascii found.symbol symbols refl found.one)))
