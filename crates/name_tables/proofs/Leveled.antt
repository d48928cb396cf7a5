-- Levels of local names, as names come and go.
use Rattle.std.proofs.Common.{◌≡◌, ◌≢◌, ℕ, zero, suc, ◌+◌, ◌-◌, ◌<◌, ◌≤◌, ◌==◌, true, false, List, [], ◌∷◌, ◌++◌, length, map, reverse, take, All, Option, Some, None, refl, sym, ap, subst, ◌∙◌, inl, inr, arith, eqb, eq-eqb, replicate, append-nil, append_assoc}
use Rattle.std.specs.List.{slice_index_or, slice_set, position_from}
use Rattle.std.proofs.lemmas.Bool.{cases_Bool, cases_lt, ne_eqb}
use Rattle.std.proofs.lemmas.Bool.Decides.{eqb_tells}
use Rattle.std.proofs.lemmas.List.{reverse-append, length-reverse, get_or-set_same, get_or-set_other, get_or_append_left, get_or_push, take-append-le, length-map, length-append, length_push, length-set}
use Rattle.std.proofs.Math.Seq.{take-append_seam}
use Rattle.std.proofs.lemmas.List.Elements.{All-nil, All-head, All-tail, All-map, All-push, All-weaker}
use Rattle.name_tables.specs.declared.locals.Level.{Level}
use Rattle.name_tables.specs.Levels.{level_of, numbers_of, AreLevels}

pub numbers_push : (levels : List Level) (l : Level) → numbers_of (levels ++ l ∷ []) ≡ l.number ∷ numbers_of levels
numbers_push levels l = ap (map (λ (k : Level). k.number)) (reverse-append levels (l ∷ []))

pub numbers_length : (levels : List Level) → length (numbers_of levels) ≡ length levels
numbers_length levels = length-map (reverse levels) (λ (k : Level). k.number) ∙ length-reverse levels

all_reversed : {X : Type 0} (P : X → Type 0) (xs : List X) → All P xs → All P (reverse xs)
all_reversed P [] a = All-nil P
all_reversed P (x ∷ xs) a = subst (All P) (sym (reverse-append (x ∷ []) xs)) (All-push P (reverse xs) x (all_reversed P xs (All-tail P x xs a)) (All-head P x xs a))

all_in_front : {X : Type 0} (P : X → Type 0) (xs ys : List X) → All P (xs ++ ys) → All P xs
all_in_front P xs ys a k d l = subst P (get_or_append_left xs ys d k l) (a k d (omega (arith, l, length-append xs ys)))

eqb_self : (n : ℕ) → eqb n n ≡ true
eqb_self n = eq-eqb n n refl

-- the place that a level says
pub placed : (number level i : ℕ) (xs : List ℕ) → level_of number xs ≡ Some level → (level < length xs) × (position_from (λ x. x == number) i xs ≡ Some (i + (length xs - 1 - level)))
placed number level i [] e = absurd cc
placed number level i (x ∷ xs) e =
    elim (cases_Bool (x == number)) [
      | inl holds ↦
          let at : length xs ≡ level = cc in
          (omega (arith, at), rw holds (ap Some (omega (arith, at))))
      | inr fails ↦
          let inner = placed number level (i + 1) xs (rw fails at e) in
          (omega (arith, inner.0), rw fails (inner.1 ∙ ap Some (omega (arith, inner.0))))
    ]

pub not_placed : (number i : ℕ) (xs : List ℕ) → level_of number xs ≡ None → position_from (λ x. x == number) i xs ≡ None
not_placed number i [] e = refl
not_placed number i (x ∷ xs) e =
    elim (cases_Bool (x == number)) [
      | inl holds ↦ absurd cc
      | inr fails ↦ rw fails (not_placed number (i + 1) xs (rw fails at e))
    ]

module _ (levels : List Level) (innermost : List (Option ℕ)) (are : AreLevels levels innermost) where
  pub far : (number : ℕ) → length innermost ≤ number → level_of number (numbers_of levels) ≡ None
  far number l = none_of (numbers_of levels) (All-map (λ x. x < length innermost) (λ (k : Level). k.number) (reverse levels) (all_reversed (λ (k : Level). k.number < length innermost) levels are.within))
    where
      none_of : (xs : List ℕ) → All (λ x. x < length innermost) xs → level_of number xs ≡ None
      none_of [] a = refl
      none_of (x ∷ xs) a = rw (ne_eqb x number (λ e. absurd (omega (arith, e, l, a 0 x (omega arith))))) (none_of xs (λ k d m. a (suc k) d (omega (arith, m))))

  -- the table with one number more
  pub longer : AreLevels levels (innermost ++ None ∷ [])
  longer = record {
    within = All-weaker (λ (l : Level). l.number < length innermost) (λ (l : Level). l.number < length (innermost ++ None ∷ [])) (λ l below. omega (arith, below, length_push innermost None)) levels are.within;
    hides = are.hides;
    right = λ number d l. elim (cases_lt number (length innermost)) [
      | inl inside ↦ get_or_append_left innermost (None ∷ []) d number inside ∙ are.right number d inside
      | inr past ↦ get_or_push innermost None d number (omega (arith, past, l, length_push innermost None)) ∙ sym (far number past)
    ];
  }

  -- a name more
  pub entered : (l : Level) (d : Option ℕ) → l.number < length innermost → l.hidden ≡ slice_index_or innermost l.number d
      → AreLevels (levels ++ l ∷ []) (slice_set innermost l.number (Some (length levels)))
  entered l d below hidden = record {
    within = All-push (λ (k : Level). k.number < length (slice_set innermost l.number (Some (length levels)))) levels l (All-weaker (λ (k : Level). k.number < length innermost) (λ (k : Level). k.number < length (slice_set innermost l.number (Some (length levels)))) (λ k m. omega (arith, m, length-set innermost l.number (Some (length levels)))) levels are.within) (omega (arith, below, length-set innermost l.number (Some (length levels))));
    hides = λ i e m. elim (cases_lt i (length levels)) [
      | inl inside ↦ hides_front i e inside
      | inr past ↦ hides_last i e (omega (arith, m, past, length_push levels l))
    ];
    right = λ number e m. elim (eqb_tells l.number number) [
      | inl same ↦ right_same number e same.1
      | inr differ ↦ right_other number e (omega (arith, m, length-set innermost l.number (Some (length levels)))) differ
    ];
  }
    where
      hides_front : (i : ℕ) (e : Level) → i < length levels → (slice_index_or (levels ++ l ∷ []) i e).hidden ≡ level_of (slice_index_or (levels ++ l ∷ []) i e).number (numbers_of (take i (levels ++ l ∷ [])))
      hides_front i e inside = rw (get_or_append_left levels (l ∷ []) e i inside, take-append-le i levels (l ∷ []) (omega (arith, inside))) (are.hides i e inside)

      hides_last : (i : ℕ) (e : Level) → i ≡ length levels → (slice_index_or (levels ++ l ∷ []) i e).hidden ≡ level_of (slice_index_or (levels ++ l ∷ []) i e).number (numbers_of (take i (levels ++ l ∷ [])))
      hides_last i e end = rw (get_or_push levels l e i (sym end), end, take-append_seam levels (l ∷ [])) (hidden ∙ are.right l.number d below)

      right_same : (number : ℕ) (e : Option ℕ) → l.number ≡ number → slice_index_or (slice_set innermost l.number (Some (length levels))) number e ≡ level_of number (numbers_of (levels ++ l ∷ []))
      right_same number e same = rw (sym same, get_or-set_same innermost l.number (Some (length levels)) e below, numbers_push levels l, eqb_self l.number, numbers_length levels) refl

      right_other : (number : ℕ) (e : Option ℕ) → number < length innermost → (eqb l.number number ≡ false) × (l.number ≢ number) → slice_index_or (slice_set innermost l.number (Some (length levels))) number e ≡ level_of number (numbers_of (levels ++ l ∷ []))
      right_other number e m differ = rw (get_or-set_other innermost l.number number (Some (length levels)) e (λ same. differ.1 (sym same)), numbers_push levels l, differ.0) (are.right number e m)

-- the innermost name leaves
pub left_behind : (front : List Level) (l : Level) (innermost : List (Option ℕ)) → AreLevels (front ++ l ∷ []) innermost → AreLevels front (slice_set innermost l.number l.hidden)
left_behind front l innermost are = record {
  within = All-weaker (λ (k : Level). k.number < length innermost) (λ (k : Level). k.number < length (slice_set innermost l.number l.hidden)) (λ k m. omega (arith, m, length-set innermost l.number l.hidden)) front (all_in_front (λ (k : Level). k.number < length innermost) front (l ∷ []) are.within);
  hides = λ i e inside. rw (sym (get_or_append_left front (l ∷ []) e i inside), sym (take-append-le i front (l ∷ []) (omega (arith, inside)))) (are.hides i e (omega (arith, inside, length_push front l)));
  right = λ number e m. elim (eqb_tells l.number number) [
    | inl same ↦ right_same number e same.1
    | inr differ ↦ right_other number e (omega (arith, m, length-set innermost l.number l.hidden)) differ
  ];
}
  where
    below : l.number < length innermost
    below = subst (λ (k : Level). k.number < length innermost) (get_or_push front l l (length front) refl) (are.within (length front) l (omega (arith, length_push front l)))

    right_same : (number : ℕ) (e : Option ℕ) → l.number ≡ number → slice_index_or (slice_set innermost l.number l.hidden) number e ≡ level_of number (numbers_of front)
    right_same number e same = rw (sym same, get_or-set_same innermost l.number l.hidden e below) (last (are.hides (length front) l (omega (arith, length_push front l))))
      where
        last : (slice_index_or (front ++ l ∷ []) (length front) l).hidden ≡ level_of (slice_index_or (front ++ l ∷ []) (length front) l).number (numbers_of (take (length front) (front ++ l ∷ []))) → l.hidden ≡ level_of l.number (numbers_of front)
        last h = rw (get_or_push front l l (length front) refl, take-append_seam front (l ∷ [])) at h

    right_other : (number : ℕ) (e : Option ℕ) → number < length innermost → (eqb l.number number ≡ false) × (l.number ≢ number) → slice_index_or (slice_set innermost l.number l.hidden) number e ≡ level_of number (numbers_of front)
    right_other number e m differ = get_or-set_other innermost l.number number l.hidden e (λ same. differ.1 (sym same)) ∙ are.right number e m ∙ ap (level_of number) (numbers_push front l) ∙ rw differ.0 refl

-- the table with so many numbers more
pub covered : (levels : List Level) (innermost : List (Option ℕ)) (n : ℕ) → AreLevels levels innermost → AreLevels levels (innermost ++ replicate n None)
covered levels innermost zero are = subst (AreLevels levels) (sym (append-nil innermost)) are
covered levels innermost (suc n) are = subst (AreLevels levels) (append_assoc innermost (None ∷ []) (replicate n None)) (covered levels (innermost ++ None ∷ []) n (longer levels innermost are))
