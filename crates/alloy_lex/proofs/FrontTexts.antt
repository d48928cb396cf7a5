-- What a front is, is what stands there.
use Rattle.std.proofs.Common.{◌≡◌, ℕ, zero, suc, ◌+◌, ◌<◌, ◌≤◌, Bool, true, false, cond, List, [], ◌∷◌, ◌++◌, length, take, drop, get_or, Option, Some, None, ◌⊎◌, inl, inr, refl, sym, ap, subst, ◌∙◌, append_assoc, arith}
use Rattle.std.specs.Prelude.{codes, nat_eq, nat_le, max, ◌==◌, ◌&&◌, ◌||◌, option_map}
use Rattle.std.specs.List.{list_any, starts_with, prefix_len}
use Rattle.std.specs.Str.{bytes_eq}
use Rattle.std.proofs.lemmas.List.{take-append-drop, length-append, length-take-le}
use Rattle.std.proofs.lemmas.List.Sums.{prefix_len-le-length}
use Rattle.std.proofs.lemmas.Slice.Eq.{bytes_eq-Decides}
use Rattle.alloy_lex.specs.declared.token.TokenKind.TheVariants as kind
use Rattle.alloy_lex.specs.declared.front.Front.{Front}
use Rattle.alloy_lex.specs.declared.front.Front.TheVariants as front
use Rattle.alloy_lex.specs.Words.{is_word, symbols, longest_front, symbol_len}
use Rattle.alloy_lex.specs.Fronts.{star, dash, slash, is_space, is_letter, is_digit, is_name_byte, is_in_line, comment_len, number_from, comment_front, second_len, path_front, name_front, number_front, symbol_front, front_of}
use Rattle.alloy_lex.specs.Reading.{Ends, IsClosed, Separates, space, slashes, dashes, block, IsName, IsPath, IsToken, IsSymbol, IsOpen, IsTooLarge}
use Rattle.alloy_lex.proofs.Fronts.{Found, longest_found}
use Rattle.alloy_lex.proofs.Runs.{name_has_some, number_has_some}
use Rattle.alloy_lex.proofs.Paths.{take_front, drop_front, run_of, first_taken, named, second_found, none_stands}

-- separators go on before any that follow
abbrev pub Precedes : List ℕ → List ℕ → Type 0
Precedes piece rest = (gap after : List ℕ) → gap ++ after ≡ rest → Separates gap after → Separates (piece ++ gap) after

-- the bytes that are taken are some
abbrev pub HasSome : ℕ → List ℕ → Type 0
HasSome n bs = 0 < length (take n bs)

abbrev pub FrontIs : Front → List ℕ → Type 0
FrontIs (front.Blank n) bs = HasSome n bs × Precedes (take n bs) (drop n bs)
FrontIs (front.Token k n) bs = HasSome n bs × IsToken k (take n bs) (drop n bs)
FrontIs front.BadCharacter bs = Unit {0}
FrontIs front.OpenComment bs = IsOpen bs
FrontIs front.NumberTooLarge bs = IsTooLarge bs

pub record Fits (f : Front) (bs : List ℕ) : Type 0 where
  pub is : FrontIs f bs

choose : (bs : List ℕ) (t : Bool) (x y : Front) → (t ≡ true → Fits x bs) → (t ≡ false → Fits y bs) → Fits (cond t x y) bs
choose bs true x y this other = this refl
choose bs false x y this other = other refl

-- ---- runs

taken_some : (n : ℕ) (bs : List ℕ) → 0 < n → n ≤ length bs → HasSome n bs
taken_some n bs some fits = let e : length (take n bs) ≡ n = length-take-le n bs fits in omega arith

-- ---- two bytes at the front

two_of : (bs : List ℕ) (x y : ℕ) → get_or bs 0 0 ≡ suc x → get_or bs 1 0 ≡ suc y → bs ≡ suc x ∷ suc y ∷ drop 2 bs
two_of [] x y first second = absurd cc
two_of (a ∷ []) x y first second = absurd cc
two_of (a ∷ b ∷ bs) x y first second = rw (first, second) refl

two_more : (n : ℕ) → n + 2 ≡ suc (suc n)
two_more n = omega arith

test_is : (x y : ℕ) → (x == y) ≡ true → x ≡ y
test_is x y e = grind arith

both : (a b : Bool) → (a && b) ≡ true → (a ≡ true) × (b ≡ true)
both true b e = (refl, e)
both false b e = absurd cc

pub pair_is : (bs : List ℕ) (x y : ℕ) → (get_or bs 0 0 == suc x && get_or bs 1 0 == suc y) ≡ true → bs ≡ suc x ∷ suc y ∷ drop 2 bs
pair_is bs x y e =
    let tests = both (get_or bs 0 0 == suc x) (get_or bs 1 0 == suc y) e in
    two_of bs x y (test_is (get_or bs 0 0) (suc x) tests.0) (test_is (get_or bs 1 0) (suc y) tests.1)

some_two : (n x y : ℕ) (rest : List ℕ) → HasSome (n + 2) (x ∷ y ∷ rest)
some_two n x y rest = rw (two_more n) (omega arith)

-- ---- comments to the end of a line

slashes_fit : (rest : List ℕ) → Fits (front.Blank (prefix_len is_in_line rest + 2)) (47 ∷ 47 ∷ rest)
slashes_fit rest =
    let n = prefix_len is_in_line rest in
    record { is = (some_two n 47 47 rest, rw (two_more n) (λ gap after e more. slashes (take n rest) gap ((run_of is_in_line rest).0, subst (λ (xs : List ℕ). Ends is_in_line xs) (sym e) (run_of is_in_line rest).1) more)) }

dashes_fit : (rest : List ℕ) → Fits (front.Blank (prefix_len is_in_line rest + 2)) (45 ∷ 45 ∷ rest)
dashes_fit rest =
    let n = prefix_len is_in_line rest in
    record { is = (some_two n 45 45 rest, rw (two_more n) (λ gap after e more. dashes (take n rest) gap ((run_of is_in_line rest).0, subst (λ (xs : List ℕ). Ends is_in_line xs) (sym e) (run_of is_in_line rest).1) more)) }

either : (a b : Bool) → (a || b) ≡ true → (a ≡ true) ⊎ (b ≡ true)
either true b e = inl refl
either false b e = inr e

abbrev LineFits : List ℕ → Type 0
LineFits bs = Fits (front.Blank (prefix_len is_in_line (drop 2 bs) + 2)) bs

line_fits : (bs : List ℕ) → ((get_or bs 0 0 == slash && get_or bs 1 0 == slash) || (get_or bs 0 0 == dash && get_or bs 1 0 == dash)) ≡ true → LineFits bs
line_fits bs e = elim (either (get_or bs 0 0 == slash && get_or bs 1 0 == slash) (get_or bs 0 0 == dash && get_or bs 1 0 == dash) e) [
  | inl twice ↦ subst (λ (xs : List ℕ). LineFits xs) (sym (pair_is bs 46 46 twice)) (slashes_fit (drop 2 bs))
  | inr twice ↦ subst (λ (xs : List ℕ). LineFits xs) (sym (pair_is bs 44 44 twice)) (dashes_fit (drop 2 bs))
]

-- ---- comments that are closed

abbrev pub some : ℕ → Option ℕ
some n = Some n

abbrev none : Option ℕ
none = None

some_is : (m n : ℕ) → some m ≡ some n → m ≡ n
some_is m n e = cc

not_some : (n : ℕ) → none ≡ some n → ⊥
not_some n e = cc

mapped_is : (o : Option ℕ) (n : ℕ) → option_map (λ k. k + 1) o ≡ some n → (m : ℕ) × (o ≡ some m) × (n ≡ suc m)
mapped_is (Some m) n e = let one = some_is (m + 1) n e in (m, refl, omega arith)
mapped_is None n e = absurd (not_some n e)

no_bytes : (xs : List ℕ) → length xs ≡ 0 → xs ≡ []
no_bytes [] e = refl
no_bytes (x ∷ xs) e = absurd (omega arith)

closed_here : IsClosed (42 ∷ 47 ∷ [])
closed_here = record {
  inner = [];
  closed = refl;
  first = λ before after e.
      let l : 2 ≡ length before + length (42 ∷ 47 ∷ after) = ap (λ (xs : List ℕ). length xs) e ∙ length-append before (42 ∷ 47 ∷ after) in
      no_bytes after (omega arith);
}

taken_first : (n x : ℕ) (bs xs : List ℕ) → take n bs ≡ x ∷ xs → get_or bs 0 0 ≡ x
taken_first zero x bs xs e = absurd cc
taken_first (suc n) x [] xs e = absurd cc
taken_first (suc n) x (b ∷ bs) xs e = cc

first_later : (b m : ℕ) (bs before after : List ℕ) → (b == 42 && get_or bs 0 0 == 47) ≡ false → IsClosed (take m bs) → b ∷ take m bs ≡ before ++ (42 ∷ 47 ∷ after) → after ≡ []
first_later b m bs [] after other closed e =
    let head : b ≡ 42 = cc in
    let tail : take m bs ≡ 47 ∷ after = cc in
    let next : get_or bs 0 0 ≡ 47 = taken_first m 47 bs after tail in
    absurd (grind (arith, head, next, other))
first_later b m bs (x ∷ before) after other closed e = let tail : take m bs ≡ before ++ (42 ∷ 47 ∷ after) = cc in closed.first before after tail

closed_later : (b m : ℕ) (bs : List ℕ) → (b == 42 && get_or bs 0 0 == 47) ≡ false → IsClosed (take m bs) → IsClosed (b ∷ take m bs)
closed_later b m bs other closed = record { inner = b ∷ closed.inner; closed = ap (λ (xs : List ℕ). b ∷ xs) closed.closed; first = λ before after e. first_later b m bs before after other closed e }

closed_step : (t : Bool) (b n : ℕ) (bs : List ℕ) → (b == 42 && get_or bs 0 0 == 47) ≡ t → ((m : ℕ) → comment_len bs ≡ some m → IsClosed (take m bs)) → cond t (some 2) (option_map (λ k. k + 1) (comment_len bs)) ≡ some n → IsClosed (take n (b ∷ bs))
closed_step true b n bs test more e =
    let is : b ∷ bs ≡ 42 ∷ 47 ∷ drop 2 (b ∷ bs) = pair_is (b ∷ bs) 41 46 test in
    let two : 2 ≡ n = some_is 2 n e in
    subst (λ (k : ℕ). IsClosed (take k (b ∷ bs))) two (subst (λ (xs : List ℕ). IsClosed (take 2 xs)) (sym is) closed_here)
closed_step false b n bs test more e =
    let m = mapped_is (comment_len bs) n e in
    subst (λ (k : ℕ). IsClosed (take k (b ∷ bs))) (sym m.2) (closed_later b m.0 bs test (more m.0 m.1))

closed_of : (bs : List ℕ) (n : ℕ) → comment_len bs ≡ some n → IsClosed (take n bs)
unfolding comment_len
closed_of [] n e = absurd (not_some n e)
closed_of (b ∷ bs) n e = closed_step (b == 42 && get_or bs 0 0 == 47) b n bs refl (λ m h. closed_of bs m h) e

-- a comment that is closed somewhere has a length
len_step : (t : Bool) (o : Option ℕ) (n : ℕ) → o ≡ some n → (m : ℕ) × (cond t (some 2) (option_map (λ k. k + 1) o) ≡ some m)
len_step true o n e = (2, refl)
len_step false o n e = (n + 1, ap (λ (p : Option ℕ). option_map (λ k. k + 1) p) e)

has_len : (before after : List ℕ) → (n : ℕ) × (comment_len (before ++ (42 ∷ 47 ∷ after)) ≡ some n)
unfolding comment_len
has_len [] after = (2, refl)
has_len (b ∷ before) after =
    let tail = before ++ (42 ∷ 47 ∷ after) in
    let more = has_len before after in
    len_step (b == 42 && get_or tail 0 0 == 47) (comment_len tail) more.0 more.1

never_closed : (body before after : List ℕ) → comment_len body ≡ none → body ≡ before ++ (42 ∷ 47 ∷ after) → ⊥
never_closed body before after e parts =
    let has = has_len before after in
    not_some has.0 (sym e ∙ ap (λ (xs : List ℕ). comment_len xs) parts ∙ has.1)

open_of : (rest : List ℕ) → comment_len rest ≡ none → IsOpen (47 ∷ 42 ∷ rest)
open_of rest e = record { body = rest; opened = refl; never_closed = λ before after parts. never_closed rest before after e parts }

block_of : (o : Option ℕ) (rest : List ℕ) → comment_len rest ≡ o → Fits (comment_front o) (47 ∷ 42 ∷ rest)
block_of (Some n) rest e = record { is = (some_two n 47 42 rest, rw (two_more n) (λ gap after e' more. block (take n rest) gap (closed_of rest n e) more)) }
block_of None rest e = record { is = open_of rest e }

block_fits : (bs : List ℕ) → (get_or bs 0 0 == slash && get_or bs 1 0 == star) ≡ true → Fits (comment_front (comment_len (drop 2 bs))) bs
block_fits bs e = subst (λ (xs : List ℕ). Fits (comment_front (comment_len (drop 2 xs))) xs) (sym (pair_is bs 46 41 e)) (block_of (comment_len (drop 2 bs)) (drop 2 bs) refl)

-- ---- white space

space_fits : (bs : List ℕ) → is_space (get_or bs 0 0) ≡ true → Fits (front.Blank 1) bs
space_fits [] e = absurd cc
space_fits (b ∷ bs) e = record { is = (omega arith, λ gap after e' more. space e more) }

-- ---- names, words and paths

path_here : (text first second rest : List ℕ) → text ≡ first ++ (slash ∷ second) → IsName first (slash ∷ (second ++ rest)) → IsName second rest → IsPath text rest
path_here text first second rest parts first_is second_is = record { first = first; second = second; parts = parts; first_is = first_is; second_is = second_is }

-- a path, which takes so many bytes
path_fits : (first second rest bs : List ℕ) (n m : ℕ) → bs ≡ first ++ (slash ∷ (second ++ rest)) → length first ≡ n → length second ≡ m → 0 < n → IsName first (slash ∷ (second ++ rest)) → IsName second rest
    → Fits (front.Token kind.Path (n + suc m)) bs
path_fits first second rest bs n m whole first_long second_long has first_is second_is =
    let text = first ++ (slash ∷ second) in
    let regrouped : bs ≡ text ++ rest = whole ∙ sym (append_assoc first (slash ∷ second) rest) in
    let l = length-append first (slash ∷ second) in
    let long : length text ≡ n + suc m = omega arith in
    let taken : take (n + suc m) bs ≡ text = ap (λ (xs : List ℕ). take (n + suc m) xs) regrouped ∙ ap (λ (k : ℕ). take k (text ++ rest)) (sym long) ∙ take_front text rest in
    let dropped : drop (n + suc m) bs ≡ rest = ap (λ (xs : List ℕ). drop (n + suc m) xs) regrouped ∙ ap (λ (k : ℕ). drop k (text ++ rest)) (sym long) ∙ drop_front text rest in
    let is : IsPath (take (n + suc m) bs) (drop (n + suc m) bs) = rw (taken, dropped) (path_here text first second rest refl first_is second_is) in
    let some : HasSome (n + suc m) bs = rw taken (omega arith) in
    record { is = (some, is) }

above : (m : ℕ) → (suc m == 0) ≡ false
above m = grind arith

path_of : (m n : ℕ) (bs : List ℕ) → second_len (drop n bs) ≡ m → 0 < n → n ≤ length bs → IsName (take n bs) (drop n bs) → Fits (path_front n m) bs
path_of zero n bs e has fits name = record { is = (taken_some n bs has fits, (name, none_stands (drop n bs) e)) }
path_of (suc m) n bs e has fits name =
    let second = second_found (drop n bs) m e in
    let split : bs ≡ take n bs ++ (slash ∷ second.name ++ second.rest) = sym (take-append-drop n bs) ∙ ap (λ (xs : List ℕ). take n bs ++ xs) second.parts in
    rw (above m) (path_fits (take n bs) second.name second.rest bs n m split (length-take-le n bs fits) second.long has (subst (λ (xs : List ℕ). IsName (take n bs) xs) second.parts name) second.is)

name_fits : (bs : List ℕ) → is_letter (get_or bs 0 0) ≡ true → Fits (name_front bs (prefix_len is_name_byte bs)) bs
name_fits bs letter =
    let n = prefix_len is_name_byte bs in
    let has = name_has_some bs letter in
    let fits = prefix_len-le-length is_name_byte bs in
    choose bs (is_word (take n bs)) (front.Token kind.Word n) (path_front n (second_len (drop n bs)))
    (λ word. record { is = (taken_some n bs has fits, (ap is_letter (first_taken n bs has) ∙ letter, run_of is_name_byte bs, word)) })
    (λ other. path_of (second_len (drop n bs)) n bs refl has fits (named bs letter other))

-- ---- numbers

small_is : (n : ℕ) → nat_le n 1000 ≡ true → n ≤ 1000
small_is n e = grind arith

large_is : (n : ℕ) → nat_le n 1000 ≡ false → 1000 < n
large_is n e = grind arith

large_of : (bs : List ℕ) → is_digit (get_or bs 0 0) ≡ true → nat_le (number_from 0 (take (prefix_len is_digit bs) bs)) 1000 ≡ false → IsTooLarge bs
large_of bs digit e =
    let n = prefix_len is_digit bs in
    record {
      digits = take n bs;
      rest = drop n bs;
      parts = sym (take-append-drop n bs);
      first = ap is_digit (first_taken n bs (number_has_some bs digit)) ∙ digit;
      run = run_of is_digit bs;
      large = large_is (number_from 0 (take n bs)) e;
    }

number_fits : (bs : List ℕ) → is_digit (get_or bs 0 0) ≡ true → Fits (number_front bs (prefix_len is_digit bs)) bs
number_fits bs digit =
    let n = prefix_len is_digit bs in
    let has = number_has_some bs digit in
    choose bs (nat_le (number_from 0 (take n bs)) 1000) (front.Token kind.Number n) front.NumberTooLarge
    (λ e. record { is = (taken_some n bs has (prefix_len-le-length is_digit bs), (ap is_digit (first_taken n bs has) ∙ digit, run_of is_digit bs, small_is (number_from 0 (take n bs)) e)) })
    (λ e. record { is = large_of bs digit e })

-- ---- symbols

longest_step : (t : Bool) (m n k : ℕ) → m ≤ n → m ≤ cond t (max k n) n
longest_step true m n k le = omega arith
longest_step false m n k le = le

longest_head : (t : Bool) (k n : ℕ) → t ≡ true → k ≤ cond t (max k n) n
longest_head true k n e = omega arith
longest_head false k n e = absurd cc

is_longest_of : (t : Bool) (s s' text : List ℕ) (rest : Bool) (n : ℕ) → bytes_eq s s' ≡ t → starts_with nat_eq text s ≡ true → (rest ≡ true → length s ≤ n) → (t || rest) ≡ true
    → length s ≤ cond (starts_with nat_eq text s') (max (length s') n) n
is_longest_of true s s' text rest n e starts more one =
    let same : s ≡ s' = (bytes_eq-Decides s s').0 e in
    let starts' : starts_with nat_eq text s' ≡ true = subst (λ (xs : List ℕ). starts_with nat_eq text xs ≡ true) same starts in
    let long : length s ≡ length s' = ap (λ (xs : List ℕ). length xs) same in
    let most = longest_head (starts_with nat_eq text s') (length s') n starts' in
    omega arith
is_longest_of false s s' text rest n e starts more one = longest_step (starts_with nat_eq text s') (length s) n (length s') (more one)

pub is_longest : (s text : List ℕ) (ss : List (List ℕ)) → list_any (bytes_eq s) ss ≡ true → starts_with nat_eq text s ≡ true → length s ≤ longest_front ss text
is_longest s text [] one starts = absurd cc
is_longest s text (s' ∷ ss) one starts = is_longest_of (bytes_eq s s') s s' text (list_any (bytes_eq s) ss) (longest_front ss text) refl starts (λ e. is_longest s text ss e starts) one

-- the test for a comment to the end of a line
abbrev begins_line : List ℕ → Bool
begins_line bs = (get_or bs 0 0 == slash && get_or bs 1 0 == slash) || (get_or bs 0 0 == dash && get_or bs 1 0 == dash)

neither : (a b : Bool) → (a || b) ≡ false → b ≡ false
neither true b e = absurd cc
neither false b e = e

pub no_and : (b : Bool) → (b && false) ≡ false
no_and true = refl
no_and false = refl

pub turned : (a b : ℕ) → (45 == a && (45 == b && true)) ≡ (a == 45 && b == 45)
turned a b = grind arith

no_dashes : (bs : List ℕ) → begins_line bs ≡ false → starts_with nat_eq bs (codes "--") ≡ false
no_dashes [] e = refl
no_dashes (a ∷ []) e = no_and (45 == a)
no_dashes (a ∷ b ∷ bs) e = turned a b ∙ neither (a == slash && b == slash) (a == dash && b == dash) e

symbol_is : (n : ℕ) (bs : List ℕ) → n ≡ longest_front symbols bs → Found symbols bs n → 0 < n → begins_line bs ≡ false → Fits (front.Token kind.Symbol n) bs
symbol_is n bs e found has other =
    let one : IsSymbol (take n bs) = subst (λ (xs : List ℕ). IsSymbol xs) (sym found.same) found.one in
    let long : length (take n bs) ≡ n = length-take-le n bs found.fits in
    record {
      is = (
        taken_some n bs has found.fits,
        (
          one,
          λ s is starts. (
              let starts' : starts_with nat_eq bs s ≡ true = subst (λ (xs : List ℕ). starts_with nat_eq xs s ≡ true) (take-append-drop n bs) starts in
              let most = is_longest s bs symbols is starts' in
              omega arith),
          subst (λ (xs : List ℕ). starts_with nat_eq xs (codes "--") ≡ false) (sym (take-append-drop n bs)) (no_dashes bs other),
        ),
      );
    }

above_zero : (n : ℕ) → (n == 0) ≡ false → 0 < n
above_zero zero e = absurd cc
above_zero (suc n) e = omega arith

symbol_fits : (bs : List ℕ) → begins_line bs ≡ false → Fits (symbol_front (symbol_len bs)) bs
unfolding symbol_len
symbol_fits bs other =
    let n = longest_front symbols bs in
    choose bs (n == 0) front.BadCharacter (front.Token kind.Symbol n)
    (λ e. record { is = tt })
    (λ e. let has : 0 < n = above_zero n e in symbol_is n bs refl (longest_found symbols bs has) has other)

-- ---- all fronts

pub front_fits : (bs : List ℕ) → Fits (front_of bs) bs
unfolding front_of
front_fits bs =
    let a = get_or bs 0 0 in
    let b = get_or bs 1 0 in
    choose bs (is_space a) _ _ (space_fits bs) (λ e.
    choose bs ((a == slash && b == slash) || (a == dash && b == dash)) _ _ (line_fits bs) (λ other.
    choose bs (a == slash && b == star) _ _ (block_fits bs) (λ e.
    choose bs (is_letter a) _ _ (name_fits bs) (λ e.
    choose bs (is_digit a) _ _ (number_fits bs) (λ e. symbol_fits bs other)))))
