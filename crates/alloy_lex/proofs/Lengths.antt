-- Words, by their lengths.
use Rattle.std.proofs.Common.{◌≡◌, ℕ, suc, Bool, true, false, ◌||◌, cond, List, [], ◌∷◌, length, refl, ap, subst, nat_eq, eqb-true, arith}
use Rattle.std.specs.Prelude.{filter, ◌==◌, ◌&&◌}
use Rattle.std.specs.List.{list_any, list_all}
use Rattle.std.specs.Str.{bytes_eq}
use Rattle.alloy_lex.specs.Words.{is_word, words, words_of}

tail_of_length : (a b : ℕ) → (suc a == suc b) ≡ false → (a == b) ≡ false
tail_of_length a b e = grind arith

no_first : (b : Bool) → (b && false) ≡ false
no_first true = refl
no_first false = refl

-- equal texts are of one length
differs : (text w : List ℕ) → (length w == length text) ≡ false → bytes_eq text w ≡ false
differs [] [] e = e
differs [] (b ∷ w) e = refl
differs (a ∷ text) [] e = refl
differs (a ∷ text) (b ∷ w) e = rw (differs text w (tail_of_length (length w) (length text) e)) (no_first (nat_eq a b))

one_of_length : (t : Bool) (text w : List ℕ) (ws : List (List ℕ)) → (length w == length text) ≡ t
    → list_any (bytes_eq text) (filter (λ w. length w == length text) ws) ≡ list_any (bytes_eq text) ws
    → list_any (bytes_eq text) (cond t (w ∷ filter (λ w. length w == length text) ws) (filter (λ w. length w == length text) ws)) ≡ bytes_eq text w || list_any (bytes_eq text) ws
one_of_length true text w ws e h = ap (λ (b : Bool). bytes_eq text w || b) h
one_of_length false text w ws e h = rw (differs text w e) h

of_length : (text : List ℕ) (ws : List (List ℕ)) → list_any (bytes_eq text) (filter (λ w. length w == length text) ws) ≡ list_any (bytes_eq text) ws
of_length text [] = refl
of_length text (w ∷ ws) = one_of_length (length w == length text) text w ws refl (of_length text ws)

pub word_of_length : (text : List ℕ) (n : ℕ) → length text ≡ n → list_any (bytes_eq text) (words_of n) ≡ is_word text
unfolding is_word words_of
word_of_length text n e = subst (λ (k : ℕ). list_any (bytes_eq text) (filter (λ w. length w == k) words) ≡ list_any (bytes_eq text) words) e (of_length text words)

abbrev lengths : List ℕ
lengths = 2 ∷ 3 ∷ 4 ∷ 5 ∷ 6 ∷ 7 ∷ 8 ∷ 9 ∷ 10 ∷ 12 ∷ []

both : (a b : Bool) → (a && b) ≡ true → (a ≡ true) × (b ≡ true)
both true b e = (refl, e)
both false b e = absurd cc

none_of : (text w : List ℕ) (ls : List ℕ) (t : Bool) → (length w == length text) ≡ t → list_any (λ k. k == length w) ls ≡ true → list_any (λ k. k == length text) ls ≡ false → t ≡ false
none_of text w ls false e has none = refl
none_of text w ls true e has none =
    let same : length w ≡ length text = eqb-true (length w) (length text) e in
    let has_too : list_any (λ k. k == length text) ls ≡ true = subst (λ (n : ℕ). list_any (λ k. k == n) ls ≡ true) same has in
    absurd (cc (has_too, none))

no_word : (text : List ℕ) (ls : List ℕ) (ws : List (List ℕ)) → list_all (λ w. list_any (λ k. k == length w) ls) ws ≡ true → list_any (λ k. k == length text) ls ≡ false → list_any (bytes_eq text) ws ≡ false
no_word text ls [] all none = refl
no_word text ls (w ∷ ws) all none =
    let parts = both (list_any (λ k. k == length w) ls) (list_all (λ w. list_any (λ k. k == length w) ls) ws) all in
    let other : (length w == length text) ≡ false = none_of text w ls (length w == length text) refl parts.0 none in
    rw (differs text w other) (no_word text ls ws parts.1 none)

-- no word is of another length
pub word_of_none : (text : List ℕ) → list_any (λ k. k == length text) lengths ≡ false → is_word text ≡ false
unfolding is_word
word_of_none text none = no_word text lengths words refl none
