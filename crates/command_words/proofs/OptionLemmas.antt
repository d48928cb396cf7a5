-- An option at the front of words.
use Rattle.std.proofs.Common.{◌≡◌, ◌⊎◌, ℕ, List, [], ◌∷◌, ◌++◌, codes, length, get_or, sym, subst, ap, ◌∙◌, arith, inl, inr, append_assoc, length-append}
use Rattle.std.proofs.lemmas.List.{append-nil}
use Rattle.command_words.specs.Words.{number_after, IsOption}

-- the words begin with the option's name and this value
abbrev pub IsValue : List ℕ → List (List ℕ) → List ℕ → List (List ℕ) → Type 0
IsValue name words value rest = (words ≡ name ∷ value ∷ rest) ⊎ (words ≡ (name ++ codes "=" ++ value) ∷ rest)

-- the words begin with the option and this number
pub record BeginsWithOption (name : List ℕ) (low high : ℕ) (words : List (List ℕ)) (n : ℕ) (rest : List (List ℕ)) : Type 0 where
  pub front : List (List ℕ)
  pub in_order : words ≡ front ++ rest
  pub option : IsOption name low high front n

same_behind : (xs a b : List ℕ) → xs ++ a ≡ xs ++ b → a ≡ b
same_behind [] a b e = e
same_behind (x ∷ xs) a b e = let rest : xs ++ a ≡ xs ++ b = cc in same_behind xs a b rest

pub record Once (value other : List ℕ) (rest others : List (List ℕ)) : Type 0 where
  pub value_is : value ≡ other
  pub rest_is : rest ≡ others

not_joined : (name value : List ℕ) → name ≡ name ++ codes "=" ++ value → ⊥
not_joined name value e = absurd (omega (arith, ap length e, length-append (name ++ codes "=") value, length-append name (codes "=")))

pub value_once : (name : List ℕ) (words : List (List ℕ)) (value other : List ℕ) (rest others : List (List ℕ)) → IsValue name words value rest → IsValue name words other others → Once value other rest others
value_once name words value other rest others (inl a) (inl b) = let e = sym a ∙ b in record { value_is = cc; rest_is = cc }
value_once name words value other rest others (inl a) (inr b) = let e : name ≡ name ++ codes "=" ++ other = cc in absurd (not_joined name other e)
value_once name words value other rest others (inr a) (inl b) = let e : name ≡ name ++ codes "=" ++ value = cc in absurd (not_joined name value e)
value_once name words value other rest others (inr a) (inr b) =
    let e = sym a ∙ b in
    let joined : name ++ codes "=" ++ value ≡ name ++ codes "=" ++ other = cc in
    let behind : rest ≡ others = cc in
    record { value_is = same_behind (name ++ codes "=") value other joined; rest_is = behind }

given_value : (name word : List ℕ) (front words rest : List (List ℕ)) → words ≡ front ++ rest → ((front ≡ name ∷ word ∷ []) ⊎ (front ≡ (name ++ codes "=" ++ word) ∷ [])) → IsValue name words word rest
given_value name word front words rest e (inl is) = inl (e ∙ ap (λ ws. ws ++ rest) is)
given_value name word front words rest e (inr is) = inr (e ∙ ap (λ ws. ws ++ rest) is)

pub begin_value : (name : List ℕ) (low high : ℕ) (words : List (List ℕ)) (n : ℕ) (rest : List (List ℕ)) (begins : BeginsWithOption name low high words n rest) → IsValue name words begins.option.word rest
begin_value name low high words n rest begins = given_value name begins.option.word begins.front words rest begins.in_order begins.option.given

pub record SameOption (n m : ℕ) (rest others : List (List ℕ)) : Type 0 where
  pub number_is : n ≡ m
  pub rest_is : rest ≡ others

pub begins_once : (name : List ℕ) (low high : ℕ) (words : List (List ℕ)) (n m : ℕ) (rest others : List (List ℕ)) → BeginsWithOption name low high words n rest → BeginsWithOption name low high words m others → SameOption n m rest others
begins_once name low high words n m rest others a b =
    let once = value_once name words a.option.word b.option.word rest others (begin_value name low high words n rest a) (begin_value name low high words m others b) in
    record { number_is = a.option.is ∙ ap (number_after 0) once.value_is ∙ sym b.option.is; rest_is = once.rest_is }

-- the first word begins with the option's name
pub first_bytes : (name : List ℕ) (words : List (List ℕ)) (value : List ℕ) (rest : List (List ℕ)) → IsValue name words value rest → (behind : List ℕ) × (get_or words 0 [] ≡ name ++ behind)
first_bytes name words value rest (inl is) = ([], ap (λ (ws : List (List ℕ)). get_or ws 0 []) is ∙ sym (append-nil name))
first_bytes name words value rest (inr is) = (codes "=" ++ value, ap (λ (ws : List (List ℕ)). get_or ws 0 []) is ∙ append_assoc name (codes "=") value)

-- no words begin with both options
pub not_both : (words : List (List ℕ)) (n m : ℕ) (rest others : List (List ℕ)) → BeginsWithOption (codes "--workers") 1 16 words n rest → BeginsWithOption (codes "--budget") 0 100000 words m others → ⊥
not_both words n m rest others a b =
    let first = first_bytes (codes "--workers") words a.option.word rest (begin_value (codes "--workers") 1 16 words n rest a) in
    let second = first_bytes (codes "--budget") words b.option.word others (begin_value (codes "--budget") 0 100000 words m others b) in
    absurd (omega (arith, ap (λ (w : List ℕ). get_or w 2 0) (sym first.1 ∙ second.1)))

-- words that begin with an option are some
pub some_words : (name : List ℕ) (low high : ℕ) (words : List (List ℕ)) (n : ℕ) (rest : List (List ℕ)) → BeginsWithOption name low high words n rest → words ≡ [] → ⊥
some_words name low high words n rest begins none =
    elim (begin_value name low high words n rest begins) [
      | inl is ↦ absurd (omega (arith, ap length (sym none ∙ is)))
      | inr is ↦ absurd (omega (arith, ap length (sym none ∙ is)))
    ]

-- an option alone
pub alone : (name : List ℕ) (low high : ℕ) (words : List (List ℕ)) (n : ℕ) → IsOption name low high words n → BeginsWithOption name low high words n []
alone name low high words n is = record { front = words; in_order = sym (append-nil words); option = is }

pub is_alone : (name : List ℕ) (low high : ℕ) (words : List (List ℕ)) (n : ℕ) (rest : List (List ℕ)) → BeginsWithOption name low high words n rest → rest ≡ [] → IsOption name low high words n
is_alone name low high words n rest begins none =
    subst (λ (ws : List (List ℕ)). IsOption name low high ws n) (sym (begins.in_order ∙ ap (λ r. begins.front ++ r) none ∙ append-nil begins.front)) begins.option
