-- What a text reads as are its tokens: a reading is unique.
use Rattle.std.proofs.Common.{◌≡◌, ℕ, zero, suc, ◌+◌, ◌≤◌, ◌<◌, Bool, true, false, cond, List, [], ◌∷◌, ◌++◌, length, take, drop, get_or, Option, Some, None, option_to_list, Result, Ok, refl, sym, ap, subst, ◌∙◌, append_assoc, arith}
use Rattle.std.specs.Prelude.{codes, nat_eq, nat_le, ◌==◌, ◌&&◌, not, option_map}
use Rattle.std.specs.List.{starts_with, prefix_len}
use Rattle.std.proofs.lemmas.List.{append-nil, length-append}
use Rattle.std.proofs.lemmas.Slice.Eq.{bytes_eq-Decides}
use Rattle.alloy_lex.specs.declared.token.Place.{Place}
use Rattle.alloy_lex.specs.declared.token.Token.{Token}
use Rattle.alloy_lex.specs.declared.token.TokenKind.{TokenKind}
use Rattle.alloy_lex.specs.declared.token.TokenKind.TheVariants as kind
use Rattle.alloy_lex.specs.declared.token.LexFault.{LexFault}
use Rattle.alloy_lex.specs.declared.front.Front.{Front}
use Rattle.alloy_lex.specs.declared.front.Front.TheVariants as front
use Rattle.alloy_lex.specs.declared.lexing.Spot.{Spot}
use Rattle.alloy_lex.specs.Words.{is_word, symbols, longest_front, symbol_len}
use Rattle.alloy_lex.specs.Fronts.{is_space, is_letter, is_digit, is_name_byte, is_in_line, comment_len, number_from, slash, second_len, path_front, name_front, number_front, symbol_front, front_of}
use Rattle.alloy_lex.specs.Tokens.{Step, passed, token_at, step_at, step_of, tokens_from, origin, tokens_of}
use Rattle.alloy_lex.specs.Reading.{IsRun, IsClosed, Separates, nothing, space, slashes, dashes, block, IsName, NoSecond, IsPath, IsToken, IsSymbol, IsLongest, Reads}
use Rattle.alloy_lex.proofs.Fronts.{one_passes, longest_found}
use Rattle.alloy_lex.proofs.FrontTexts.{is_longest, pair_is, no_and, turned}
use Rattle.alloy_lex.proofs.Readings.{passed_append, passed_none}
use Rattle.alloy_lex.proofs.Paths.{take_front, drop_front, run_len, second_back, no_length}
use Rattle.alloy_lex.proofs.Slices.{has_byte}

-- ---- how long a comment is

tail_first : (b c : ℕ) (bs : List ℕ) → IsClosed (b ∷ c ∷ bs) → (before after : List ℕ) → c ∷ bs ≡ before ++ (42 ∷ 47 ∷ after) → after ≡ []
tail_first b c bs closed before after e = closed.first (b ∷ before) after (ap (λ (xs : List ℕ). b ∷ xs) e)

tail_closed : (b c : ℕ) (bs inner : List ℕ) → (b == 42 && c == 47) ≡ false → IsClosed (b ∷ c ∷ bs) → b ∷ c ∷ bs ≡ inner ++ (42 ∷ 47 ∷ []) → IsClosed (c ∷ bs)
tail_closed b c bs [] other closed e =
    let first : b ≡ 42 = cc in
    let second : c ≡ 47 = cc in
    absurd (grind (arith, first, second, other))
tail_closed b c bs (x ∷ inner) other closed e = record { inner = inner; closed = cc; first = tail_first b c bs closed }

abbrev some : ℕ → Option ℕ
some n = Some n

closed_len_step : (t : Bool) (b c : ℕ) (bs rest : List ℕ) → (b == 42 && c == 47) ≡ t → IsClosed (b ∷ c ∷ bs) → (IsClosed (c ∷ bs) → comment_len ((c ∷ bs) ++ rest) ≡ some (length (c ∷ bs)))
    → cond t (some 2) (option_map (λ k. k + 1) (comment_len ((c ∷ bs) ++ rest))) ≡ some (length (b ∷ c ∷ bs))
closed_len_step true b c bs rest e closed more =
    let none : bs ≡ [] = closed.first [] bs (pair_is (b ∷ c ∷ bs) 41 46 e) in
    rw none refl
closed_len_step false b c bs rest e closed more =
    let here : comment_len ((c ∷ bs) ++ rest) ≡ some (length (c ∷ bs)) = more (tail_closed b c bs closed.inner e closed closed.closed) in
    let n : length bs + 1 + 1 ≡ suc (suc (length bs)) = omega arith in
    ap (λ (o : Option ℕ). option_map (λ k. k + 1) o) here ∙ ap some (omega arith)

too_short : (n : ℕ) (inner body : List ℕ) → length body ≡ n → n < 2 → body ≡ inner ++ (42 ∷ 47 ∷ []) → ⊥
too_short n inner body e lt is = let l = ap (λ (xs : List ℕ). length xs) is in let m = length-append inner (42 ∷ 47 ∷ []) in omega arith

closed_len : (body rest : List ℕ) → IsClosed body → comment_len (body ++ rest) ≡ some (length body)
unfolding comment_len
closed_len [] rest closed = absurd (too_short 0 closed.inner [] refl (omega arith) closed.closed)
closed_len (b ∷ []) rest closed = absurd (too_short 1 closed.inner (b ∷ []) refl (omega arith) closed.closed)
closed_len (b ∷ c ∷ bs) rest closed = closed_len_step (b == 42 && c == 47) b c bs rest refl closed (λ tail. closed_len (c ∷ bs) rest tail)

-- ---- the fronts of separators

two_more : (n : ℕ) → n + 2 ≡ suc (suc n)
two_more n = omega arith

pub space_front : (b : ℕ) (rest : List ℕ) → is_space b ≡ true → front_of (b ∷ rest) ≡ front.Blank 1
unfolding front_of
space_front b rest e = rw e refl

pub slashes_front : (body rest : List ℕ) → IsRun is_in_line body rest → front_of (47 ∷ 47 ∷ (body ++ rest)) ≡ front.Blank (suc (suc (length body)))
unfolding front_of
slashes_front body rest run = rw (run_len is_in_line body rest run.0 run.1) (ap (λ (n : ℕ). front.Blank n) (two_more (length body)))

pub dashes_front : (body rest : List ℕ) → IsRun is_in_line body rest → front_of (45 ∷ 45 ∷ (body ++ rest)) ≡ front.Blank (suc (suc (length body)))
unfolding front_of
dashes_front body rest run = rw (run_len is_in_line body rest run.0 run.1) (ap (λ (n : ℕ). front.Blank n) (two_more (length body)))

pub block_front : (body rest : List ℕ) → IsClosed body → front_of (47 ∷ 42 ∷ (body ++ rest)) ≡ front.Blank (suc (suc (length body)))
unfolding front_of
block_front body rest closed = rw (closed_len body rest closed) (ap (λ (n : ℕ). front.Blank n) (two_more (length body)))

-- ---- the fronts of tokens

letter_tests : (a : ℕ) → is_letter a ≡ true → (is_space a ≡ false) × ((a == 47) ≡ false) × ((a == 45) ≡ false)
letter_tests a e = (grind (arith, e), grind (arith, e), grind (arith, e))

digit_tests : (a : ℕ) → is_digit a ≡ true → (is_space a ≡ false) × ((a == 47) ≡ false) × ((a == 45) ≡ false) × (is_letter a ≡ false)
digit_tests a e = (grind (arith, e), grind (arith, e), grind (arith, e), grind (arith, e))

name_here : (a : ℕ) (bs : List ℕ) → is_letter a ≡ true → front_of (a ∷ bs) ≡ name_front (a ∷ bs) (prefix_len is_name_byte (a ∷ bs))
unfolding front_of
name_here a bs e = let t = letter_tests a e in rw (t.0, t.1, t.2, e) refl

pub number_here : (a : ℕ) (bs : List ℕ) → is_digit a ≡ true → front_of (a ∷ bs) ≡ number_front (a ∷ bs) (prefix_len is_digit (a ∷ bs))
unfolding front_of
number_here a bs e = let t = digit_tests a e in rw (t.0, t.1, t.2, t.3, e) refl

abbrev named_front : Bool → ℕ → ℕ → Front
named_front word n more = cond word (front.Token kind.Word n) (path_front n more)

-- a run at the front, whatever stands behind it
run_back : (t : Bool) (text rest : List ℕ) → is_word text ≡ t → is_letter (get_or text 0 0) ≡ true → IsRun is_name_byte text rest → front_of (text ++ rest) ≡ named_front t (length text) (second_len rest)
run_back t [] rest word letter run = absurd cc
run_back t (a ∷ bs) rest word letter run =
    name_here a (bs ++ rest) letter
    ∙ ap (λ (n : ℕ). name_front (a ∷ bs ++ rest) n) (run_len is_name_byte (a ∷ bs) rest run.0 run.1)
    ∙ ap (λ (xs : List ℕ). named_front (is_word xs) (length (a ∷ bs)) (second_len (drop (length (a ∷ bs)) (a ∷ bs ++ rest)))) (take_front (a ∷ bs) rest)
    ∙ ap (λ (xs : List ℕ). named_front (is_word (a ∷ bs)) (length (a ∷ bs)) (second_len xs)) (drop_front (a ∷ bs) rest)
    ∙ ap (λ (b : Bool). named_front b (length (a ∷ bs)) (second_len rest)) word

name_back : (text rest : List ℕ) → IsName text rest → NoSecond rest → front_of (text ++ rest) ≡ front.Token kind.Name (length text)
name_back text rest name alone = run_back false text rest name.2 name.0 name.1 ∙ ap (λ (n : ℕ). path_front (length text) n) (no_length rest alone)

path_some : (n m : ℕ) → path_front n (m + 1) ≡ front.Token kind.Path (n + (m + 1))
path_some n m = let above : (m + 1 == 0) ≡ false = grind arith in rw above refl

path_back : (text rest : List ℕ) → IsPath text rest → front_of (text ++ rest) ≡ front.Token kind.Path (length text)
path_back text rest path =
    let behind = slash ∷ (path.second ++ rest) in
    let whole : text ++ rest ≡ path.first ++ behind = ap (λ (xs : List ℕ). xs ++ rest) path.parts ∙ append_assoc path.first (slash ∷ path.second) rest in
    let l = length-append path.first (slash ∷ path.second) in
    let m : length text ≡ length (path.first ++ (slash ∷ path.second)) = ap (λ (xs : List ℕ). length xs) path.parts in
    let long : length path.first + (length path.second + 1) ≡ length text = omega arith in
    ap (λ (xs : List ℕ). front_of xs) whole
    ∙ run_back false path.first behind path.first_is.2 path.first_is.0 path.first_is.1
    ∙ ap (λ (n : ℕ). path_front (length path.first) n) (second_back path.second rest path.second_is)
    ∙ path_some (length path.first) (length path.second)
    ∙ ap (λ (n : ℕ). front.Token kind.Path n) long

within : (n : ℕ) → n ≤ 1000 → nat_le n 1000 ≡ true
within n le = grind arith

abbrev number_or_fault : Bool → ℕ → Front
number_or_fault t n = cond t (front.Token kind.Number n) front.NumberTooLarge

number_back : (text rest : List ℕ) → is_digit (get_or text 0 0) ≡ true → IsRun is_digit text rest → number_from 0 text ≤ 1000 → front_of (text ++ rest) ≡ front.Token kind.Number (length text)
number_back [] rest digit run small = absurd cc
number_back (a ∷ bs) rest digit run small =
    number_here a (bs ++ rest) digit
    ∙ ap (λ (n : ℕ). number_front (a ∷ bs ++ rest) n) (run_len is_digit (a ∷ bs) rest run.0 run.1)
    ∙ ap (λ (xs : List ℕ). number_or_fault (nat_le (number_from 0 xs) 1000) (length (a ∷ bs))) (take_front (a ∷ bs) rest)
    ∙ ap (λ (b : Bool). number_or_fault b (length (a ∷ bs))) (within (number_from 0 (a ∷ bs)) small)

-- a text that begins with no space, slash, letter or digit
abbrev is_mark : List ℕ → Bool
is_mark text = let a = get_or text 0 0 in not (is_space a) && (not (a == 47) && (not (is_letter a) && not (is_digit a)))

parts : (a b c d : Bool) → (not a && (not b && (not c && not d))) ≡ true → (a ≡ false) × (b ≡ false) × (c ≡ false) × (d ≡ false)
parts false false false false e = (refl, refl, refl, refl)
parts true b c d e = absurd cc
parts false true c d e = absurd cc
parts false false true d e = absurd cc
parts false false false true e = absurd cc

mark_tests : (a : ℕ) (bs : List ℕ) → is_mark (a ∷ bs) ≡ true → (is_space a ≡ false) × ((a == 47) ≡ false) × (is_letter a ≡ false) × (is_digit a ≡ false)
mark_tests a bs e = parts (is_space a) (a == 47) (is_letter a) (is_digit a) e

dashes_test : (a : ℕ) (bs : List ℕ) → starts_with nat_eq (a ∷ bs) (codes "--") ≡ false → (a == 45 && get_or bs 0 0 == 45) ≡ false
dashes_test a [] e = no_and (a == 45)
dashes_test a (b ∷ bs) e = sym (turned a b) ∙ e

symbol_here : (a : ℕ) (bs : List ℕ) → is_mark (a ∷ bs) ≡ true → starts_with nat_eq (a ∷ bs) (codes "--") ≡ false → front_of (a ∷ bs) ≡ symbol_front (symbol_len (a ∷ bs))
unfolding front_of
symbol_here a bs mark other = let t = mark_tests a bs mark in rw (t.0, t.1, dashes_test a bs other, t.2, t.3) refl

starts_of : (s text : List ℕ) → s ≡ take (length s) text → starts_with nat_eq text s ≡ true
starts_of s text e = (bytes_eq-Decides s (take (length s) text)).1 e

at_most : (n k : ℕ) → (0 < n → n ≤ k) → n ≤ k
at_most zero k le = omega arith
at_most (suc n) k le = le (omega arith)

symbol_long : (text rest : List ℕ) → IsSymbol text → IsLongest text rest → longest_front symbols (text ++ rest) ≡ length text
symbol_long text rest one longest =
    let n = longest_front symbols (text ++ rest) in
    let upper : n ≤ length text = at_most n (length text) (λ has.
    let found = longest_found symbols (text ++ rest) has in
    let same : found.symbol ≡ take (length found.symbol) (text ++ rest) = sym found.same ∙ ap (λ (k : ℕ). take k (text ++ rest)) (sym found.long) in
    let long : length found.symbol ≡ n = found.long in
    let most : length found.symbol ≤ length text = longest found.symbol found.one (starts_of found.symbol (text ++ rest) same) in
    omega arith) in
    let lower : length text ≤ n = is_longest text (text ++ rest) symbols one (starts_of text (text ++ rest) (sym (take_front text rest))) in
    omega (arith, upper, lower)

symbol_some : (n : ℕ) → 0 < n → symbol_front n ≡ front.Token kind.Symbol n
symbol_some zero has = absurd (omega arith)
symbol_some (suc n) has = let above : (suc n == 0) ≡ false = grind arith in rw above refl

symbol_back : (text rest : List ℕ) → IsSymbol text → IsLongest text rest → starts_with nat_eq (text ++ rest) (codes "--") ≡ false → front_of (text ++ rest) ≡ front.Token kind.Symbol (length text)
unfolding symbol_len
symbol_back [] rest one longest other = absurd cc
symbol_back (a ∷ bs) rest one longest other =
    let mark : is_mark (a ∷ bs) ≡ true = one_passes is_mark (a ∷ bs) symbols refl one in
    symbol_here a (bs ++ rest) mark other
    ∙ ap (λ (n : ℕ). symbol_front n) (symbol_long (a ∷ bs) rest one longest)
    ∙ symbol_some (length (a ∷ bs)) (omega arith)

pub token_front : (k : TokenKind) (text rest : List ℕ) → IsToken k text rest → front_of (text ++ rest) ≡ front.Token k (length text)
token_front kind.Name text rest is = name_back text rest is.0 is.1
token_front kind.Path text rest is = path_back text rest is
token_front kind.Word text rest is = run_back true text rest is.2 is.0 is.1
token_front kind.Number text rest is = number_back text rest is.0 is.1 is.2
token_front kind.Symbol text rest is = symbol_back text rest is.0 is.1 is.2

-- ---- steps

abbrev step_ok : Option Token → Spot → List ℕ → Result Step LexFault
step_ok found next rest = Ok (found, next, rest)

blank_step : (at : Spot) (piece rest : List ℕ) → front_of (piece ++ rest) ≡ front.Blank (length piece) → step_of at (piece ++ rest) ≡ step_ok None (passed at piece) rest
unfolding step_of
blank_step at piece rest e =
    ap (λ (f : Front). step_at f at (piece ++ rest)) e
    ∙ ap (λ (xs : List ℕ). step_ok None (passed at xs) (drop (length piece) (piece ++ rest))) (take_front piece rest)
    ∙ ap (λ (xs : List ℕ). step_ok None (passed at piece) xs) (drop_front piece rest)

token_step : (k : TokenKind) (at : Spot) (text rest : List ℕ) → IsToken k text rest → step_of at (text ++ rest) ≡ step_ok (Some (token_at k at text)) (passed at text) rest
unfolding step_of
token_step k at text rest is =
    ap (λ (f : Front). step_at f at (text ++ rest)) (token_front k text rest is)
    ∙ ap (λ (xs : List ℕ). step_ok (Some (token_at k at xs)) (passed at xs) (drop (length text) (text ++ rest))) (take_front text rest)
    ∙ ap (λ (xs : List ℕ). step_ok (Some (token_at k at text)) (passed at text) xs) (drop_front text rest)

-- the tokens from here on, in any number of steps that is enough
abbrev From : Spot → List ℕ → List Token → Type 0
From at text ts = (n : ℕ) → length text < n → tokens_from n at text ≡ Ok ts

step_back : (text : List ℕ) (n : ℕ) (at next : Spot) (found : Option Token) (rest : List ℕ) (ts : List Token) → length rest < length text → step_of at text ≡ step_ok found next rest → From next rest ts
    → length text < n → tokens_from n at text ≡ Ok (option_to_list found ++ ts)
unfolding tokens_from
step_back [] n at next found rest ts shorter step more enough = absurd (omega arith)
step_back (b ∷ bs) zero at next found rest ts shorter step more enough = absurd (omega arith)
step_back (b ∷ bs) (suc n) at next found rest ts shorter step more enough = let then_ = more n (omega arith) in rw (step, then_) refl

piece_back : (piece gap after : List ℕ) (at : Spot) (ts : List Token) → 0 < length piece → front_of (piece ++ (gap ++ after)) ≡ front.Blank (length piece) → From (passed at piece) (gap ++ after) ts → From at ((piece ++ gap) ++ after) ts
piece_back piece gap after at ts has e more = λ n enough.
    let whole : piece ++ (gap ++ after) ≡ (piece ++ gap) ++ after = sym (append_assoc piece gap after) in
    let l = length-append piece (gap ++ after) in
    let shorter : length (gap ++ after) < length (piece ++ (gap ++ after)) = omega arith in
    let long : length (piece ++ (gap ++ after)) ≡ length ((piece ++ gap) ++ after) = ap (λ (xs : List ℕ). length xs) whole in
    subst (λ (xs : List ℕ). tokens_from n at xs ≡ Ok ts) whole
    (step_back (piece ++ (gap ++ after)) n at (passed at piece) None (gap ++ after) ts shorter (blank_step at piece (gap ++ after) e) more (omega arith))

from_at : (at next : Spot) (text : List ℕ) (ts : List Token) → at ≡ next → From at text ts → From next text ts
from_at at next text ts e from = subst (λ s. From s text ts) e from

gap_back : {gap after : List ℕ} → Separates gap after → (at : Spot) (ts : List Token) → From (passed at gap) after ts → From at (gap ++ after) ts
gap_back {gap = []} {after = after} nothing at ts from = from_at (passed at []) at after ts (passed_none at) from
gap_back {gap = b ∷ gap} {after = after} (space e more) at ts from =
    piece_back (b ∷ []) gap after at ts (omega arith) (space_front b (gap ++ after) e)
    (gap_back more (passed at (b ∷ [])) ts (from_at (passed at (b ∷ gap)) (passed (passed at (b ∷ [])) gap) after ts (sym (passed_append at (b ∷ []) gap)) from))
gap_back {after = after} (slashes body gap run more) at ts from =
    let piece : List ℕ = 47 ∷ 47 ∷ body in
    piece_back piece gap after at ts (omega arith) (slashes_front body (gap ++ after) run)
    (gap_back more (passed at piece) ts (from_at (passed at (piece ++ gap)) (passed (passed at piece) gap) after ts (sym (passed_append at piece gap)) from))
gap_back {after = after} (dashes body gap run more) at ts from =
    let piece : List ℕ = 45 ∷ 45 ∷ body in
    piece_back piece gap after at ts (omega arith) (dashes_front body (gap ++ after) run)
    (gap_back more (passed at piece) ts (from_at (passed at (piece ++ gap)) (passed (passed at piece) gap) after ts (sym (passed_append at piece gap)) from))
gap_back {after = after} (block body gap closed more) at ts from =
    let piece : List ℕ = 47 ∷ 42 ∷ body in
    piece_back piece gap after at ts (omega arith) (block_front body (gap ++ after) closed)
    (gap_back more (passed at piece) ts (from_at (passed at (piece ++ gap)) (passed (passed at piece) gap) after ts (sym (passed_append at piece gap)) from))

-- ---- readings

abbrev token : TokenKind → ℕ → Place → List ℕ → Token
token k start place text = record { kind = k; start = start; place = place; text = text }

token_is : (t : Token) (at : Spot) → t.start ≡ at.start → t.place ≡ at.place → token_at t.kind at t.text ≡ t
token_is t at start place =
    let k = t.kind in
    let text = t.text in
    ap (λ (s : ℕ). token k s at.place text) (sym start) ∙ ap (λ (p : Place). token k t.start p text) (sym place)

ends_here : (at : Spot) → From at [] []
unfolding tokens_from
ends_here at zero enough = absurd (omega arith)
ends_here at (suc n) enough = refl

from_reads : (ts : List Token) (at : Spot) (text : List ℕ) → Reads at text ts → From at text ts
from_reads [] at text reads = subst (λ (xs : List ℕ). From at xs []) (append-nil text) (gap_back reads at [] (ends_here (passed at text)))
from_reads (t ∷ ts) at text reads =
    let next = reads.2 in
    let here = passed at reads.0 in
    let rest = from_reads ts (passed here t.text) reads.1 reads.3 in
    let has : 0 < length t.text = has_byte t.kind t.text reads.1 next.longest in
    let l = length-append t.text reads.1 in
    let shorter : length reads.1 < length (t.text ++ reads.1) = omega arith in
    let one : token_at t.kind here t.text ≡ t = token_is t here next.start next.place in
    let from : From here (t.text ++ reads.1) (token_at t.kind here t.text ∷ ts) = λ n enough.
    step_back (t.text ++ reads.1) n here (passed here t.text) (Some (token_at t.kind here t.text)) reads.1 ts shorter (token_step t.kind here t.text reads.1 next.longest) rest enough in
    subst (λ (xs : List ℕ). From at xs (t ∷ ts)) (sym next.whole)
    (gap_back next.separated at (t ∷ ts) (subst (λ (u : Token). From here (t.text ++ reads.1) (u ∷ ts)) one from))

pub read_tokens : (text : List ℕ) (ts : List Token) → Reads origin text ts → tokens_of text ≡ Ok ts
read_tokens text ts reads = from_reads ts origin text reads (suc (length text)) (omega arith)

abbrev done : List Token → Result (List Token) LexFault
done ts = Ok ts

done_is : (ts us : List Token) → done ts ≡ done us → ts ≡ us
done_is ts us e = cc

pub reading_unique : (text : List ℕ) (ts us : List Token) → Reads origin text ts → Reads origin text us → ts ≡ us
reading_unique text ts us this other = done_is ts us (sym (read_tokens text ts this) ∙ read_tokens text us other)
