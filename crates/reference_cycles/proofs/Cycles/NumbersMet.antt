-- A walk: the numbers that were met, those whose rows were walked, and how far each is from the start.
use Rattle.std.proofs.Common.{◌≡◌, ◌⊎◌, ℕ, zero, suc, Vec, Global, ◌+◌, ◌<◌, ◌≤◌, Bool, true, false, not, ◌||◌, ◌==◌, nat_eq, nat_lt, if◌then◌else◌, List, [], ◌∷◌, ◌++◌, length, take, get_or, inl, inr, refl, sym, ap, subst, ◌∙◌, arith}
use Rattle.std.specs.List.{list_any, IsDistinct}
use Rattle.std.proofs.lemmas.Bool.{cases_Bool, eqb-true, eq-eqb, ltb-true, ltb-false}
use Rattle.std.proofs.lemmas.List.{length-append, length-map, get_or_append_left, get_or_past}
use Rattle.std.proofs.lemmas.List.Folds.{list_any_more, list_any-append, list_any_at}
use Rattle.std.proofs.lemmas.Map.Steps.{length-le_from_distinct_below}
use Rattle.indexmap.specs.IndexSet.{insert_key}
use Rattle.reference_cycles.specs.Cycles.Walks.{rows_of, row_of, among, IsEdge, IsWalk, IsCyclic, IsAcyclic}
use Rattle.reference_cycles.specs.Cycles.Marks.{met_with, Meets}
use Rattle.reference_cycles.proofs.Cycles.WalkEdges.{not_both, either, or_left, or_right, has_row, walk_behind, stays_in}

-- ---- one number among others

same_test : (x y : ℕ) → nat_eq x y ≡ (y == x)
same_test x y =
    elim (cases_Bool (nat_eq x y)) [
      | inl same ↦ same ∙ sym (eq-eqb y x (sym (eqb-true x y same)))
      | inr apart ↦
          elim (cases_Bool (y == x)) [
            | inl other ↦ absurd (not_both (eq-eqb x y (sym (eqb-true y x other))) apart)
            | inr none ↦ apart ∙ sym none
          ]
    ]

pub among_is : (x : ℕ) (xs : List ℕ) → list_any (nat_eq x) xs ≡ among x xs
among_is x [] = refl
among_is x (y ∷ xs) = ap (λ b. b || list_any (nat_eq x) xs) (same_test x y) ∙ ap (λ b. (y == x) || b) (among_is x xs)

among_at : (xs : List ℕ) (i d : ℕ) → i < length xs → among (get_or xs i d) xs ≡ true
among_at xs i d l = list_any_at (λ y. y == get_or xs i d) xs i d l (eq-eqb (get_or xs i d) (get_or xs i d) refl)

place_among : (x : ℕ) (xs : List ℕ) → among x xs ≡ true → (i : ℕ) × (i < length xs) × (get_or xs i x ≡ x)
place_among x [] h = absurd (not_both h refl)
place_among x (y ∷ xs) h =
    elim (either (y == x) (among x xs) h) [
      | inl here ↦ (zero, omega arith, eqb-true y x here)
      | inr there ↦
          let more = place_among x xs there in
          (suc more.0, omega (arith, more.1), more.2)
    ]

-- ---- the numbers of a row come in one by one

pub none_met : (count : ℕ) (old : List ℕ) → Meets count old [] old
none_met count old = record {
  all = λ r at l. absurd (not_both at refl);
  kept = λ x at. at;
  stays = λ j d l. refl;
  longer = omega arith;
  only = λ x at. inl at;
}

module _ (count : ℕ) (old row : List ℕ) (i r : ℕ) (now : List ℕ) (meets : Meets count old (take i row) now) (l : i < length row) (at : r ≡ get_or row i r) where
  more_of : (x : ℕ) → among x (take (i + 1) row) ≡ (among x (take i row) || (r == x))
  more_of x = list_any_more (λ y. y == x) row i r l ∙ ap (λ y. among x (take i row) || (y == x)) (sym at)

  before : (x : ℕ) → among x (take i row) ≡ true → among x (take (i + 1) row) ≡ true
  before x h = more_of x ∙ or_left (among x (take i row)) (r == x) h

  same : (r < count → among r now ≡ true) → Meets count old (take (i + 1) row) now
  same there = record {
    all = λ x h below.
        elim (either (among x (take i row)) (r == x) (sym (more_of x) ∙ h)) [
          | inl first ↦ meets.all x first below
          | inr last ↦
              let is = eqb-true r x last in
              subst (λ y. among y now ≡ true) is (there (subst (λ y. y < count) (sym is) below))
        ];
    kept = meets.kept;
    stays = meets.stays;
    longer = meets.longer;
    only = λ x h.
        elim (meets.only x h) [
          | inl was ↦ inl was
          | inr new ↦ inr (before x new.0, new.1, new.2)
        ];
  }

  in_front : (x : ℕ) → among x now ≡ true → among x (now ++ r ∷ []) ≡ true
  in_front x h = list_any-append (λ y. y == x) now (r ∷ []) ∙ or_left (among x now) ((r == x) || false) h

  grown : length (now ++ r ∷ []) ≡ length now + 1
  grown = length-append now (r ∷ [])

  longer_now : length old ≤ length (now ++ r ∷ [])
  longer_now = omega (arith, grown, meets.longer)

  grows : r < count → Meets count old (take (i + 1) row) (now ++ r ∷ [])
  grows below_r = record {
    all = λ x h below.
        elim (either (among x (take i row)) (r == x) (sym (more_of x) ∙ h)) [
          | inl first ↦ in_front x (meets.all x first below)
          | inr last ↦ list_any-append (λ y. y == x) now (r ∷ []) ∙ or_right (among x now) ((r == x) || false) (or_left (r == x) false last)
        ];
    kept = λ x h. in_front x (meets.kept x h);
    stays = λ j d lj. get_or_append_left now (r ∷ []) d j (omega (arith, lj, meets.longer)) ∙ meets.stays j d lj;
    longer = longer_now;
    only = λ x h.
        elim (either (among x now) ((r == x) || false) (sym (list_any-append (λ y. y == x) now (r ∷ [])) ∙ h)) [
          | inl was ↦
              elim (meets.only x was) [
                | inl old ↦ inl old
                | inr new ↦ inr (before x new.0, new.1, omega (arith, grown, new.2))
              ]
          | inr is ↦
              elim (either (r == x) false is) [
                | inl here ↦
                    inr (
                      more_of x ∙ or_right (among x (take i row)) (r == x) here,
                      subst (λ y. y < count) (eqb-true r x here) below_r,
                      omega (arith, grown, meets.longer),
                    )
                | inr none ↦ absurd (not_both none refl)
              ]
        ];
  }

  pub one_met : (new : List ℕ) → new ≡ met_with count now r → Meets count old (take (i + 1) row) new
  one_met new is = subst (Meets count old (take (i + 1) row)) (sym is) (elim (cases_Bool (nat_lt r count)) [ inl below ↦ low below | inr beyond ↦ high beyond ])
    where
      high : nat_lt r count ≡ false → Meets count old (take (i + 1) row) (met_with count now r)
      high beyond =
          let kept : met_with count now r ≡ now = ap (λ (b : Bool). if b then insert_key nat_eq now r else now) beyond in
          let few : count ≤ r = ltb-false r count beyond in
          subst (Meets count old (take (i + 1) row)) (sym kept) (same (λ lr. absurd (omega (arith, lr, few))))

      low : nat_lt r count ≡ true → Meets count old (take (i + 1) row) (met_with count now r)
      low below =
          let into : met_with count now r ≡ insert_key nat_eq now r = ap (λ (b : Bool). if b then insert_key nat_eq now r else now) below in
          elim (cases_Bool (list_any (nat_eq r) now)) [
            | inl there ↦
                let kept : insert_key nat_eq now r ≡ now = ap (λ (b : Bool). if b then now else now ++ r ∷ []) there in
                subst (Meets count old (take (i + 1) row)) (sym (into ∙ kept)) (same (λ lr. sym (among_is r now) ∙ there))
            | inr new ↦
                let put : insert_key nat_eq now r ≡ now ++ r ∷ [] = ap (λ (b : Bool). if b then now else now ++ r ∷ []) new in
                subst (Meets count old (take (i + 1) row)) (sym (into ∙ put)) (grows (ltb-true r count below))
          ]

-- ---- the walk

-- the rows of the first so many numbers that were met are walked
pub record Walk (rows : List (List ℕ)) (start : ℕ) (met : List ℕ) (next : ℕ) : Type 0 where
  pub below : (x : ℕ) → among x met ≡ true → x < length rows
  pub led : (x : ℕ) → among x met ≡ true → (over : List ℕ) × IsWalk rows start over x × (length over < length met)
  pub first : (r : ℕ) → among r (row_of rows start) ≡ true → r < length rows → among r met ≡ true
  pub done : (j d : ℕ) → j < next → (r : ℕ) → among r (row_of rows (get_or met j d)) ≡ true → r < length rows → among r met ≡ true
  pub far : next ≤ length met

module _ (rows : List (List ℕ)) (start : ℕ) where
  pub begun : (old met : List ℕ) → old ≡ [] → Meets (length rows) old (row_of rows start) met → Walk rows start met 0
  begun old met none meets = record {
    below = λ x h. elim (meets.only x h) [ inl was ↦ absurd (not_both was (ap (among x) none)) | inr new ↦ new.1 ];
    led = λ x h.
        elim (meets.only x h) [
          | inl was ↦ absurd (not_both was (ap (among x) none))
          | inr new ↦ ([], new.0, omega (arith, new.2))
        ];
    first = meets.all;
    done = λ j d l r h lr. absurd (omega (arith, l));
    far = omega arith;
  }

  module _ (met : List ℕ) (next : ℕ) (walk : Walk rows start met next) where
    pub further : (new : List ℕ) (number : ℕ) → next < length met → ((d : ℕ) → number ≡ get_or met next d) → Meets (length rows) met (row_of rows number) new → Walk rows start new (next + 1)
    further new number l is meets = record {
      below = λ x h. elim (meets.only x h) [ inl was ↦ walk.below x was | inr fresh ↦ fresh.1 ];
      led = λ x h.
          elim (meets.only x h) [
            | inl was ↦
                let way = walk.led x was in
                (way.0, way.1, omega (arith, way.2, meets.longer))
            | inr fresh ↦
                let here : among number met ≡ true = subst (λ y. among y met ≡ true) (sym (is 0)) (among_at met next 0 l) in
                let way = walk.led number here in
                let grown : length (way.0 ++ number ∷ []) ≡ length way.0 + 1 = length-append way.0 (number ∷ []) in
                (way.0 ++ number ∷ [], walk_behind rows start way.0 number x way.1 fresh.0, omega (arith, grown, way.2, fresh.2))
          ];
      first = λ r h lr. meets.kept r (walk.first r h lr);
      done = done_then;
      far = omega (arith, l, meets.longer);
    }
      where
        done_then : (j d : ℕ) → j < next + 1 → (r : ℕ) → among r (row_of rows (get_or new j d)) ≡ true → r < length rows → among r new ≡ true
        done_then j d lj r h lr =
            let same : get_or new j d ≡ get_or met j d = meets.stays j d (omega (arith, lj, l)) in
            elim (cases_Bool (nat_lt j next)) [
              | inl early ↦ meets.kept r (walk.done j d (ltb-true j next early) r (subst (λ y. among r (row_of rows y) ≡ true) same h) lr)
              | inr late ↦
                  let few : next ≤ j = ltb-false j next late in
                  let last : j ≡ next = omega (arith, lj, few) in
                  let number_is : get_or new j d ≡ number = same ∙ ap (λ k. get_or met k d) last ∙ sym (is d) in
                  meets.all r (subst (λ y. among r (row_of rows y) ≡ true) number_is h) lr
            ]

    pub few_met : IsDistinct nat_eq met → length met ≤ length rows
    few_met distinct = length-le_from_distinct_below met (length rows) distinct (λ q h. walk.below q (sym (among_is q met) ∙ h))

    pub ended_with : IsDistinct nat_eq met → among start met ≡ true → IsCyclic rows start
    ended_with distinct again =
        let way = walk.led start again in
        (way.0, way.1, omega (arith, way.2, few_met distinct))

    pub ended_without : length met ≤ next → start < length rows → among start met ≡ false → IsAcyclic rows start
    ended_without all there never over way = not_both (stays_in rows (λ x. x < length rows → among x met ≡ true) steps start over start walk.first way there) never
      where
        steps : (k r : ℕ) → (k < length rows → among k met ≡ true) → IsEdge rows k r → r < length rows → among r met ≡ true
        steps k r is edge lr =
            let place = place_among k met (is (has_row rows k r edge)) in
            walk.done place.0 k (omega (arith, place.1, all)) r (subst (λ y. among r (row_of rows y) ≡ true) (sym place.2) edge) lr

-- the same, where the row and the number of rows have other names
pub begun_at : (rows : List (List ℕ)) (start : ℕ) (old met : List ℕ) (count : ℕ) (row : List ℕ) → old ≡ [] → count ≡ length rows → row ≡ row_of rows start → Meets count old row met → Walk rows start met 0
begun_at rows start old met count row none many is meets = begun rows start old met none (subst (λ r. Meets (length rows) old r met) is (subst (λ k. Meets k old row met) many meets))

pub further_at : (rows : List (List ℕ)) (start : ℕ) (met : List ℕ) (next : ℕ) → Walk rows start met next → (new : List ℕ) (number count : ℕ) (row : List ℕ) → next < length met → ((d : ℕ) → number ≡ get_or met next d) → count ≡ length rows → row ≡ row_of rows number → Meets count met row new
    → Walk rows start new (next + 1)
further_at rows start met next walk new number count row l at many is meets = further rows start met next walk new number l at (subst (λ r. Meets (length rows) met r new) is (subst (λ k. Meets k met row new) many meets))

pub met_below : (rows : List (List ℕ)) (start : ℕ) (met : List ℕ) (next : ℕ) → Walk rows start met next → (number : ℕ) → next < length met → ((d : ℕ) → number ≡ get_or met next d) → number < length rows
met_below rows start met next walk number l at = walk.below number (subst (λ y. among y met ≡ true) (sym (at 0)) (among_at met next 0 l))

pub rows_count : (rows : List (Vec ℕ Global)) → length (rows_of rows) ≡ length rows
rows_count rows = length-map rows (λ (v : Vec ℕ Global). v.items)
