-- Where a number stands, in a list that grows.
use Rattle.std.proofs.Common.{◌≡◌, ◌≢◌, ℕ, zero, suc, ◌+◌, ◌<◌, ◌≤◌, ◌==◌, Bool, true, false, ◌||◌, List, [], ◌∷◌, ◌++◌, length, drop, All, Option, Some, None, ◌-◌, refl, sym, ap, subst, ◌∙◌, inl, inr, cond, arith, eq-eqb, replicate, append-nil, append_assoc}
use Rattle.std.specs.List.{slice_set, slice_index_or, position_from}
use Rattle.std.proofs.lemmas.Bool.{cases_Bool, cases_lt, ne_eqb}
use Rattle.std.proofs.lemmas.List.{get_or_append_left, get_or_push, get_or-set_same, get_or-set_other, length_push, length-set}
use Rattle.std.proofs.lemmas.Bool.Decides.{eqb_tells}
use Rattle.std.proofs.lemmas.List.Elements.{All-head, All-tail, All-push, All-weaker}
use Rattle.std.proofs.lemmas.Iterator.Adapters.{position_from-zero}
use Rattle.name_tables.specs.Levels.{place_of}
use Rattle.name_tables.specs.declared.firsts.Occurrence.{Occurrence}
use Rattle.name_tables.specs.declared.firsts.Occurrence.TheVariants.{Never, Once, Again}
use Rattle.name_tables.specs.Occurrence.{is_among, once_more, occurrence_from, occurrence, AreFirsts}

pub never : (number place : ℕ) (xs : List ℕ) → All (λ x. x ≢ number) xs → occurrence_from number place xs ≡ Never
never number place [] a = refl
never number place (x ∷ xs) a = rw (ne_eqb x number (All-head (λ y. y ≢ number) x xs a)) (never number (place + 1) xs (All-tail (λ y. y ≢ number) x xs a))

-- a place later, where the element there is the number or is not
abbrev pub later : ℕ → Bool → Occurrence → Occurrence
later place false o = o
later place true o = once_more place o

last_alone : (t : Bool) (place : ℕ) → (cond t (cond false (Again place) (Once place)) Never) ≡ later (place + 0) t Never
last_alone true place = ap Once (omega arith)
last_alone false place = refl

here : (t u : Bool) (end place : ℕ) → cond (t || u) (Again place) (Once place) ≡ later end u (cond t (Again place) (Once place))
here true true end place = refl
here true false end place = refl
here false true end place = refl
here false false end place = refl

among_push : (number : ℕ) (xs : List ℕ) (y : ℕ) → is_among (xs ++ y ∷ []) number ≡ (is_among xs number || (y == number))
among_push number [] y = or_false (y == number)
  where
    or_false : (b : Bool) → (b || false) ≡ b
    or_false true = refl
    or_false false = refl
among_push number (x ∷ xs) y = or_assoc (x == number) (is_among (xs ++ y ∷ []) number) (is_among xs number) (y == number) (among_push number xs y)
  where
    or_assoc : (a b c d : Bool) → b ≡ (c || d) → (a || b) ≡ ((a || c) || d)
    or_assoc true b c d e = refl
    or_assoc false b c d e = e

pub pushed_from : (number place : ℕ) (xs : List ℕ) (y : ℕ) → occurrence_from number place (xs ++ y ∷ []) ≡ later (place + length xs) (y == number) (occurrence_from number place xs)
pushed_from number place [] y = last_alone (y == number) place
pushed_from number place (x ∷ xs) y =
    let end_is : place + 1 + length xs ≡ place + suc (length xs) = omega arith in
    elim (cases_Bool (x == number)) [
      | inl holds ↦ rw (holds, among_push number xs y) (here (is_among xs number) (y == number) (place + suc (length xs)) place)
      | inr fails ↦ rw fails (pushed_from number (place + 1) xs y ∙ ap (λ k. later k (y == number) (occurrence_from number (place + 1) xs)) end_is)
    ]

pub pushed_whole : (number : ℕ) (xs : List ℕ) (y : ℕ) → occurrence number (xs ++ y ∷ []) ≡ later (length xs) (y == number) (occurrence number xs)
pushed_whole number xs y =
    let none : 0 + length xs ≡ length xs = omega arith in
    pushed_from number 0 xs y ∙ ap (λ k. later k (y == number) (occurrence number xs)) none

module _ (numbers : List ℕ) (occurrences : List Occurrence) (are : AreFirsts numbers occurrences) where
  -- a number outside of the table
  pub outside : (number : ℕ) → length occurrences ≤ number → occurrence number numbers ≡ Never
  outside number far =
      let differ : (x : ℕ) → x < length occurrences → x ≢ number = λ x l e. absurd (omega (arith, l, far, e)) in
      never number 0 numbers (All-weaker (λ x. x < length occurrences) (λ x. x ≢ number) differ numbers are.within)

  -- the table with one number more
  pub longer : AreFirsts numbers (occurrences ++ Never ∷ [])
  longer = record {
    within = All-weaker (λ x. x < length occurrences) (λ x. x < length (occurrences ++ Never ∷ [])) (λ x l. omega (arith, l, length_push occurrences Never)) numbers are.within;
    right = λ number d l. elim (cases_lt number (length occurrences)) [
      | inl inside ↦ get_or_append_left occurrences (Never ∷ []) d number inside ∙ are.right number d inside
      | inr far ↦ get_or_push occurrences Never d number (omega (arith, far, l, length_push occurrences Never)) ∙ sym (outside number far)
    ];
  }

  -- the list with one number more
  pub pushed : (number : ℕ) (d : Occurrence) → number < length occurrences
      → AreFirsts (numbers ++ number ∷ []) (slice_set occurrences number (once_more (length numbers) (slice_index_or occurrences number d)))
  pushed number d l =
      let v = once_more (length numbers) (slice_index_or occurrences number d) in
      let long : length (slice_set occurrences number v) ≡ length occurrences = length-set occurrences number v in
      record {
        within = All-push (λ x. x < length (slice_set occurrences number v)) numbers number (All-weaker (λ x. x < length occurrences) (λ x. x < length (slice_set occurrences number v)) (λ x below. omega (arith, below, long)) numbers are.within) (omega (arith, l, long));
        right = λ other e m. elim (eqb_tells number other) [
          | inl same ↦ subst (λ (k : ℕ). slice_index_or (slice_set occurrences number v) k e ≡ occurrence k (numbers ++ number ∷ [])) same.1
              (get_or-set_same occurrences number v e l
              ∙ ap (once_more (length numbers)) (are.right number d l)
              ∙ ap (λ t. later (length numbers) t (occurrence number numbers)) (sym (eq-eqb number number refl))
              ∙ sym (pushed_whole number numbers number))
          | inr differ ↦ get_or-set_other occurrences number other v e (λ same. differ.1 (sym same))
              ∙ are.right other e (omega (arith, m, long))
              ∙ ap (λ t. later (length numbers) t (occurrence other numbers)) (sym differ.0)
              ∙ sym (pushed_whole other numbers number)
        ];
      }

-- the table with so many numbers more
pub covered : (numbers : List ℕ) (occurrences : List Occurrence) (n : ℕ) → AreFirsts numbers occurrences → AreFirsts numbers (occurrences ++ replicate n Never)
covered numbers occurrences zero are = subst (AreFirsts numbers) (sym (append-nil occurrences)) are
covered numbers occurrences (suc n) are = subst (AreFirsts numbers) (append_assoc occurrences (Never ∷ []) (replicate n Never)) (covered numbers (occurrences ++ Never ∷ []) n (longer numbers occurrences are))

-- the place that an occurrence says
abbrev pub place_in : Occurrence → Option ℕ
place_in Never = None
place_in (Once place) = Some place
place_in (Again place) = Some place

pub first_place : (number place : ℕ) (xs : List ℕ) → position_from (λ x. x == number) place xs ≡ place_in (occurrence_from number place xs)
first_place number place [] = refl
first_place number place (x ∷ xs) =
    elim (cases_Bool (x == number)) [
      | inl holds ↦ rw holds (which (is_among xs number))
      | inr fails ↦ rw fails (first_place number (place + 1) xs)
    ]
  where
    which : (t : Bool) → Some place ≡ place_in (cond t (Again place) (Once place))
    which true = refl
    which false = refl

-- whether the number stands behind that place too
pub stands_again : (number place : ℕ) (xs : List ℕ) (first : ℕ) → occurrence_from number place xs ≡ Again first → (place ≤ first) × (is_among (drop (first - place + 1) xs) number ≡ true)
stands_again number place [] first e = absurd cc
stands_again number place (x ∷ xs) first e =
    elim (cases_Bool (x == number)) [
      | inl holds ↦ here_again (is_among xs number) refl (rw holds at e)
      | inr fails ↦
          let inner = stands_again number (place + 1) xs first (rw fails at e) in
          let next : first - place + 1 ≡ suc (first - (place + 1) + 1) = omega (arith, inner.0) in
          (omega (arith, inner.0), rw next inner.1)
    ]
  where
    here_again : (t : Bool) → is_among xs number ≡ t → cond t (Again place) (Once place) ≡ Again first → (place ≤ first) × (is_among (drop (first - place + 1) (x ∷ xs)) number ≡ true)
    here_again true among h =
        let same : place ≡ first = cc in
        let one : first - place + 1 ≡ 1 = omega (arith, same) in
        (omega (arith, same), rw one among)
    here_again false among h = absurd cc

pub stands_once : (number place : ℕ) (xs : List ℕ) (first : ℕ) → occurrence_from number place xs ≡ Once first → (place ≤ first) × (is_among (drop (first - place + 1) xs) number ≡ false)
stands_once number place [] first e = absurd cc
stands_once number place (x ∷ xs) first e =
    elim (cases_Bool (x == number)) [
      | inl holds ↦ here_once (is_among xs number) refl (rw holds at e)
      | inr fails ↦
          let inner = stands_once number (place + 1) xs first (rw fails at e) in
          let next : first - place + 1 ≡ suc (first - (place + 1) + 1) = omega (arith, inner.0) in
          (omega (arith, inner.0), rw next inner.1)
    ]
  where
    here_once : (t : Bool) → is_among xs number ≡ t → cond t (Again place) (Once place) ≡ Once first → (place ≤ first) × (is_among (drop (first - place + 1) (x ∷ xs)) number ≡ false)
    here_once true among h = absurd cc
    here_once false among h =
        let same : place ≡ first = cc in
        let one : first - place + 1 ≡ 1 = omega (arith, same) in
        (omega (arith, same), rw one among)

pub place_is : (number : ℕ) (xs : List ℕ) → place_of number xs ≡ place_in (occurrence number xs)
place_is number xs = position_from-zero (λ x. x == number) xs ∙ first_place number 0 xs

abbrev pub is_again : Occurrence → Bool
is_again Never = false
is_again (Once first) = false
is_again (Again first) = true

from_nothing : (k first : ℕ) (xs : List ℕ) (number : ℕ) (b : Bool) → Some k ≡ Some first → is_among (drop (k - 0 + 1) xs) number ≡ b → b ≡ is_among (drop (first + 1) xs) number
from_nothing k first xs number b same e =
    let at : k ≡ first = cc in
    let places : k - 0 + 1 ≡ first + 1 = omega (arith, at) in
    sym (subst (λ (n : ℕ). is_among (drop n xs) number ≡ b) places e)

pub repeated : (number : ℕ) (xs : List ℕ) (first : ℕ) (o : Occurrence) → o ≡ occurrence number xs → place_of number xs ≡ Some first → is_again o ≡ is_among (drop (first + 1) xs) number
repeated number xs first Never e at = absurd (none_is_some (ap place_in e ∙ sym (place_is number xs) ∙ at))
  where
    none_is_some : None ≡ Some first → ⊥
    none_is_some h = absurd cc
repeated number xs first (Once k) e at = from_nothing k first xs number false (ap place_in e ∙ sym (place_is number xs) ∙ at) (stands_once number 0 xs k (sym e)).1
repeated number xs first (Again k) e at = from_nothing k first xs number true (ap place_in e ∙ sym (place_is number xs) ∙ at) (stands_again number 0 xs k (sym e)).1
