-- Numbers of texts, as more texts are met.
use Rattle.std.proofs.Common.{◌≡◌, ℕ, ◌+◌, ◌==◌, Bool, true, List, [], ◌∷◌, ◌++◌, get_or, Option, Some, None, sym, ap, ◌∙◌, subst, inl, inr, eqb, eq-eqb, Result, Ok, Err, OnOk}
use Rattle.std.specs.List.{position_from}
use Rattle.std.specs.Str.{bytes_eq}
use Rattle.std.proofs.lemmas.Bool.{cases_Bool, eqb-true}
use Rattle.std.proofs.lemmas.List.Quantifiers.{position-Some}
use Rattle.std.proofs.lemmas.Iterator.Adapters.{position_from-zero}
use Rattle.named_model.specs.Names.{number_of}
use Rattle.name_tables.proofs.Texts.{agree, equal_texts, same_text}
use Rattle.name_tables.specs.Repeats.Numbered.{Grows, IsNumbered}

from_kept : (p : List ℕ → Bool) (i : ℕ) (ws more : List (List ℕ)) (n : ℕ) → position_from p i ws ≡ Some n → position_from p i (ws ++ more) ≡ Some n
from_kept p i [] more n e = absurd cc
from_kept p i (w ∷ ws) more n e =
    elim (cases_Bool (p w)) [
      | inl holds ↦ rw holds (rw holds at e)
      | inr fails ↦ rw fails (from_kept p (i + 1) ws more n (rw fails at e))
    ]

-- a text that was met keeps its number
pub number_kept : (ws more : List (List ℕ)) (t : List ℕ) (n : ℕ) → number_of ws t ≡ Some n → number_of (ws ++ more) t ≡ Some n
number_kept ws more t n e =
    position_from-zero (λ name. bytes_eq name t) (ws ++ more) ∙ from_kept (λ name. bytes_eq name t) 0 ws more n (sym (position_from-zero (λ name. bytes_eq name t) ws) ∙ e)

-- two texts are equal exactly where their numbers are
pub same_number : (ws : List (List ℕ)) (a b : List ℕ) (i j : ℕ) → number_of ws a ≡ Some i → number_of ws b ≡ Some j → (i == j) ≡ bytes_eq a b
same_number ws a b i j ea eb =
    agree (eqb i j) (bytes_eq a b)
    (λ e.
    let same : get_or ws i [] ≡ get_or ws j [] = ap (λ k. get_or ws k []) (eqb-true i j e) in
    let text : a ≡ b = sym (is_text a i ea) ∙ same ∙ is_text b j eb in
    subst (λ t. bytes_eq a t ≡ true) text (same_text a))
    (λ e. eq-eqb i j (some_same (sym ea ∙ ap (number_of ws) (equal_texts a b e) ∙ eb)))
  where
    is_text : (t : List ℕ) (k : ℕ) → number_of ws t ≡ Some k → get_or ws k [] ≡ t
    is_text t k e = equal_texts (get_or ws k []) t (position-Some (λ name. bytes_eq name t) ws k [] e).1

    some_same : Some i ≡ Some j → i ≡ j
    some_same h = cc

pub numbered_kept : (ws more : List (List ℕ)) (o : Option ℕ) (t : Option (List ℕ)) → IsNumbered ws o t → IsNumbered (ws ++ more) o t
numbered_kept ws more (Some n) (Some t) e = number_kept ws more t n e
numbered_kept ws more (Some n) None e = absurd e
numbered_kept ws more None (Some t) e = absurd e
numbered_kept ws more None None e = tt

pub grows_one : (ws new : List (List ℕ)) (t : List ℕ) → new ≡ ws ++ t ∷ [] → Grows ws new
grows_one ws new t e = (t ∷ [], e)

pub where_ok : {T E P : Type 0} (r : Result T E) → P → OnOk r P
where_ok (Ok x) p = p
where_ok (Err e) p = tt
