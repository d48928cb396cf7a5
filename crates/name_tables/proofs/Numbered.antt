-- Lists of names by the numbers of their words.
use Rattle.std.proofs.Common.{◌≡◌, ℕ, ◌+◌, ◌<◌, ◌==◌, true, List, [], ◌∷◌, ◌++◌, length, map, AllPairs, None, refl, sym, subst, ◌∙◌, inl, inr, arith, eqb, eq-eqb}
use Rattle.std.specs.List.{position_from}
use Rattle.std.specs.Str.{bytes_eq}
use Rattle.std.proofs.lemmas.Bool.{cases_Bool, cases_lt, eqb-true}
use Rattle.std.proofs.lemmas.List.{get_or_append_left}
use Rattle.std.proofs.lemmas.List.Elements.{All-head, All-tail}
use Rattle.std.proofs.lemmas.Iterator.Adapters.{position_from-zero}
use Rattle.named_model.specs.Names as names
use Rattle.name_tables.specs.Occurrence.{is_among}
use Rattle.name_tables.specs.Levels.{place_of}
use Rattle.name_tables.specs.InForce.{word_at, AreWords}
use Rattle.name_tables.proofs.Texts.{agree, equal_texts, same_text}

abbrev pub AreOnce : List (List ℕ) → Type 0
AreOnce words = AllPairs (λ a b. a ≡ b → ⊥) words

-- two numbers of one word are one
one_number : (words : List (List ℕ)) → AreOnce words → (m n : ℕ) → m < length words → n < length words → word_at words m ≡ word_at words n → m ≡ n
one_number words once m n l k e =
    elim (cases_lt m n) [
      | inl before ↦ absurd (once m n [] before k e)
      | inr from ↦ elim (cases_lt n m) [
        | inl behind ↦ absurd (once n m [] behind l (sym e))
        | inr to ↦ omega (arith, from, to)
      ]
    ]

-- a name is this text exactly where its number is that of the word
same_test : (words : List (List ℕ)) → AreOnce words → (word : ℕ) (text : List ℕ) → word < length words → word_at words word ≡ text
    → (x : ℕ) → x < length words → (x == word) ≡ bytes_eq (word_at words x) text
same_test words once word text l is x m =
    agree (eqb x word) (bytes_eq (word_at words x) text)
    (λ e. subst (λ n. bytes_eq (word_at words n) text ≡ true) (sym (eqb-true x word e)) (subst (λ t. bytes_eq t text ≡ true) (sym is) (same_text text)))
    (λ e. eq-eqb x word (one_number words once x word m l (equal_texts (word_at words x) text e ∙ sym is)))

from_by_number : (words : List (List ℕ)) → AreOnce words → (word : ℕ) (text : List ℕ) → word < length words → word_at words word ≡ text
    → (i : ℕ) (xs : List ℕ) → AreWords words xs → position_from (λ name. bytes_eq name text) i (map (word_at words) xs) ≡ position_from (λ x. x == word) i xs
from_by_number words once word text l is i [] a = refl
from_by_number words once word text l is i (x ∷ xs) a =
    rw (sym (same_test words once word text l is x (All-head (λ y. y < length words) x xs a)), from_by_number words once word text l is (i + 1) xs (All-tail (λ y. y < length words) x xs a)) refl

pub by_number : (words : List (List ℕ)) → AreOnce words → (word : ℕ) (text : List ℕ) → word < length words → word_at words word ≡ text
    → (xs : List ℕ) → AreWords words xs → names.number_of (map (word_at words) xs) text ≡ place_of word xs
by_number words once word text l is xs a =
    position_from-zero (λ name. bytes_eq name text) (map (word_at words) xs) ∙ from_by_number words once word text l is 0 xs a ∙ sym (position_from-zero (λ x. x == word) xs)

pub among_by_number : (words : List (List ℕ)) → AreOnce words → (word : ℕ) (text : List ℕ) → word < length words → word_at words word ≡ text
    → (xs : List ℕ) → AreWords words xs → names.is_among (map (word_at words) xs) text ≡ is_among xs word
among_by_number words once word text l is [] a = refl
among_by_number words once word text l is (x ∷ xs) a =
    rw (sym (same_test words once word text l is x (All-head (λ y. y < length words) x xs a)), among_by_number words once word text l is xs (All-tail (λ y. y < length words) x xs a)) refl

-- a text that no word is
from_unmet : (words : List (List ℕ)) (text : List ℕ) → ((n : ℕ) → n < length words → word_at words n ≡ text → ⊥)
    → (i : ℕ) (xs : List ℕ) → AreWords words xs → position_from (λ name. bytes_eq name text) i (map (word_at words) xs) ≡ None
from_unmet words text unmet i [] a = refl
from_unmet words text unmet i (x ∷ xs) a =
    elim (cases_Bool (bytes_eq (word_at words x) text)) [
      | inl holds ↦ absurd (unmet x (All-head (λ y. y < length words) x xs a) (equal_texts (word_at words x) text holds))
      | inr fails ↦ rw fails (from_unmet words text unmet (i + 1) xs (All-tail (λ y. y < length words) x xs a))
    ]

pub unmet_is_none : (words : List (List ℕ)) (text : List ℕ) → ((n : ℕ) → n < length words → word_at words n ≡ text → ⊥)
    → (xs : List ℕ) → AreWords words xs → names.number_of (map (word_at words) xs) text ≡ None
unmet_is_none words text unmet xs a = position_from-zero (λ name. bytes_eq name text) (map (word_at words) xs) ∙ from_unmet words text unmet 0 xs a

-- the words are as they were where more are met
pub kept : (words more : List (List ℕ)) (xs : List ℕ) → AreWords words xs → map (word_at (words ++ more)) xs ≡ map (word_at words) xs
kept words more [] a = refl
kept words more (x ∷ xs) a = rw (get_or_append_left words more [] x (All-head (λ y. y < length words) x xs a), kept words more xs (All-tail (λ y. y < length words) x xs a)) refl
