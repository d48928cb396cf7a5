-- The order of tuples, and sorted lists of them.
use Rattle.std.proofs.Common.{◌≡◌, ℕ, zero, suc, ◌+◌, ◌-◌, ◌≤◌, ◌↔◌, ◌⊎◌, inl, inr, List, [], ◌∷◌, length, get_or, Contains, IsTrue, refl, sym, ◌∙◌, ap, subst, arith}
use Rattle.std.specs.declared.cmp.Ordering.{Ordering}
use Rattle.std.specs.declared.cmp.Ordering.TheVariants.{Less, Equal, Greater}
use Rattle.std.specs.Prelude.{insert, Result, Ok, Err, IfOk, is_ok}
use Rattle.std.specs.Ordering.{nat_cmp, ordering_then, ordering_index, ordering_reverse, is_lt}
use Rattle.std.specs.Cmp.{IsTotalOrder}
use Rattle.std.specs.List.{HoldsAt}
use Rattle.std.specs.List.Sorted.{IsNonDecreasingBy, IsPartitionPoint, IsSearchInRange, IsBinarySearchResult}
use Rattle.std.proofs.lemmas.Bool.{cases_lt}
use Rattle.std.proofs.lemmas.Bool.Decides.{nat_tests}
use Rattle.std.proofs.lemmas.Cmp.{nat_cmp_total, on_total, then_total, lists_total, tied_itself}
use Rattle.std.proofs.lemmas.List.Edits.{length-insert, get_or-insert_below, get_or-insert_at, get_or-insert_above}
use Rattle.std.proofs.lemmas.List.Elements.{All-contains, Contains-get_or, Contains-append_cases, Contains-append_right, Contains-push_cases}
use Rattle.std.proofs.lemmas.List.Sorted.{searchable_from_sorted, IsPermutation-insert, IsPermutation-sym, Contains-permutation}
use Rattle.tuple_core.specs.declared.atom.Atom.{Atom}
use Rattle.tuple_core.specs.Order.{atom_cmp, tuple_cmp, IsAscending}
use Rattle.tuple_core.specs.Gains.{Same, Gains}
use Rattle.tuple_core.specs.Rows.{Rows, IsRows}
use Rattle.tuple_core.proofs.Atoms.{same_atom, same_set}

pub tuple_order : IsTotalOrder tuple_cmp
tuple_order = lists_total (then_total (on_total (λ (a : Atom). a.top) nat_cmp_total) (on_total (λ (a : Atom). a.place) nat_cmp_total))

then_equal : (o p : Ordering) → ordering_then o p ≡ Equal → (o ≡ Equal) × (p ≡ Equal)
then_equal Less p e = cc
then_equal Equal p e = (refl, e)
then_equal Greater p e = cc

nat_tie : (m n : ℕ) → nat_cmp m n ≡ Equal → m ≡ n
nat_tie m n e = grind (arith, nat_tests)

pub tied : (s t : List Atom) → tuple_cmp s t ≡ Equal → s ≡ t
tied [] [] e = refl
tied [] (y ∷ ys) e = cc
tied (x ∷ xs) [] e = cc
tied (x ∷ xs) (y ∷ ys) e =
    let both = then_equal (atom_cmp x y) (tuple_cmp xs ys) e in
    let parts = then_equal (nat_cmp x.top y.top) (nat_cmp x.place y.place) both.0 in
    ap (λ a. a ∷ xs) (same_atom x y (nat_tie x.top y.top parts.0) (nat_tie x.place y.place parts.1)) ∙ ap (λ r. y ∷ r) (tied xs ys both.1)

flip : (s t : List Atom) (o : Ordering) → tuple_cmp s t ≡ o → tuple_cmp t s ≡ ordering_reverse o
flip s t o e = tuple_order.antisymm t s ∙ ap ordering_reverse e

pub searchable : (xs : List (List Atom)) (x : List Atom) → IsAscending xs → IsNonDecreasingBy (λ y. ordering_index (tuple_cmp y x)) xs
searchable xs x up = searchable_from_sorted tuple_order (λ t. t) xs x (λ k d low high. ap is_lt (flip (get_or xs k d) (get_or xs (k + 1) d) Less (up k (k + 1) d (omega arith) high)))

module _ (xs : List (List Atom)) (x : List Atom) (i : ℕ) (up : IsAscending xs) (l : i ≤ length xs) (at : IsPartitionPoint (λ y. tuple_cmp y x ≡ Less) (λ y. tuple_cmp y x ≡ Greater) xs i) where
  pub absent : Contains xs x → ⊥
  absent c =
      let itself : tuple_cmp (get_or xs c.0 x) x ≡ Equal = subst (λ y. tuple_cmp y x ≡ Equal) (sym c.2) (tied_itself tuple_order x) in
      elim (cases_lt c.0 i) [
        | inl before ↦ let e = at.0 c.0 x (omega arith) before in cc
        | inr past ↦ let e = at.1 c.0 x past c.1 in cc
      ]

  pub still_ascending : IsAscending (insert xs i x)
  still_ascending j k d less in' =
      let long = length-insert xs i x l in
      let R : List Atom → List Atom → Type 0 = λ s t. tuple_cmp s t ≡ Less in
      elim (cases_lt k i) [
        | inl k_before ↦ subst (λ t. R (get_or (insert xs i x) j d) t) (sym (get_or-insert_below xs i x d k k_before l))
            (subst (λ s. R s (get_or xs k d)) (sym (get_or-insert_below xs i x d j (omega arith) l)) (up j k d less (omega arith)))
        | inr k_past ↦ elim (cases_lt i k) [
          | inr k_at ↦ let same : i ≡ k = omega arith in
              subst (λ n. R (get_or (insert xs i x) j d) (get_or (insert xs i x) n d)) same
              (subst (λ t. R (get_or (insert xs i x) j d) t) (sym (get_or-insert_at xs i x d l))
              (subst (λ s. R s x) (sym (get_or-insert_below xs i x d j (omega arith) l)) (at.0 j d (omega arith) (omega arith))))
          | inl k_above ↦
              let k' : get_or (insert xs i x) k d ≡ get_or xs (k - 1) d = ap (λ n. get_or (insert xs i x) n d) (let e : k ≡ k - 1 + 1 = omega arith in e) ∙ get_or-insert_above xs i x d (k - 1) (omega arith) l in
              subst (λ t. R (get_or (insert xs i x) j d) t) (sym k') (elim (cases_lt j i) [
                | inl j_before ↦ subst (λ s. R s (get_or xs (k - 1) d)) (sym (get_or-insert_below xs i x d j j_before l)) (up j (k - 1) d (omega arith) (omega arith))
                | inr j_past ↦ elim (cases_lt i j) [
                  | inr j_at ↦ let same : i ≡ j = omega arith in
                      subst (λ n. R (get_or (insert xs i x) n d) (get_or xs (k - 1) d)) same
                      (subst (λ s. R s (get_or xs (k - 1) d)) (sym (get_or-insert_at xs i x d l)) (flip (get_or xs (k - 1) d) x Greater (at.1 (k - 1) d (omega arith) (omega arith))))
                  | inl j_above ↦
                      let j' : get_or (insert xs i x) j d ≡ get_or xs (j - 1) d = ap (λ n. get_or (insert xs i x) n d) (let e : j ≡ j - 1 + 1 = omega arith in e) ∙ get_or-insert_above xs i x d (j - 1) (omega arith) l in
                      subst (λ s. R s (get_or xs (k - 1) d)) (sym j') (up (j - 1) (k - 1) d (omega arith) (omega arith))
                ]
              ])
        ]
      ]

-- what a list contains after one more
pub insert_contains : {X : Type 0} (xs : List X) (i : ℕ) (x t : X) → Contains (insert xs i x) t ↔ (Contains xs t ⊎ (t ≡ x))
insert_contains xs i x t =
    let moved = IsPermutation-insert xs i x in (
      λ c. elim (Contains-append_cases (x ∷ []) xs t (Contains-permutation (insert xs i x) (x ∷ xs) t (IsPermutation-sym (x ∷ xs) (insert xs i x) moved) c)) [
        | inl a ↦ elim (Contains-push_cases [] x t a) [ inl none ↦ absurd (let l = none.1 in omega arith) | inr e ↦ inr (sym e) ]
        | inr b ↦ inl b
      ],
      λ s. Contains-permutation (x ∷ xs) (insert xs i x) t moved (elim s [ inl c ↦ Contains-append_right (x ∷ []) xs t c | inr e ↦ subst (λ u. Contains (x ∷ xs) u) (sym e) (zero, omega arith, refl) ]),
    )

-- what a search of a sorted list finds
pub searched : (xs : List (List Atom)) (x : List Atom) (r : Result ℕ ℕ) → IsAscending xs → IsSearchInRange r (length xs) → IfOk r (HoldsAt (λ y. tuple_cmp y x ≡ Equal) xs) → IsBinarySearchResult (λ y. tuple_cmp y x) xs r → IsTrue (is_ok r) ↔ Contains xs x
searched xs x (Ok i) up within ok at = (λ e. (i, within, tied (get_or xs i x) x (ok x)), λ c. refl)
searched xs x (Err i) up within ok at = (λ e. cc, λ c. absurd (absent xs x i up within (at (searchable xs x up)) c))

-- a set after one more tuple
pub rows_inserted : (v w : Rows) (t : List Atom) → w.arity ≡ v.arity → IsRows v → Gains (Contains v.rows) (Contains w.rows) (λ u. u ≡ t) → IsAscending w.rows → length t ≡ v.arity → IsRows w
rows_inserted v w t same is g up long = record {
  low = subst (λ n. 1 ≤ n) (sym same) is.low;
  high = subst (λ n. n ≤ 3) (sym same) is.high;
  arities = λ k d l. elim ((g.tuples (get_or w.rows k d)).0 (Contains-get_or w.rows k d l)) [
    | inl old ↦ All-contains (λ u. length u ≡ v.arity) v.rows (get_or w.rows k d) is.arities old ∙ sym same
    | inr new ↦ ap length new ∙ long ∙ sym same
  ];
  ascending = up;
}

contains_cons : (x : List Atom) (xs : List (List Atom)) (t : List Atom) → Contains (x ∷ xs) t → (x ≡ t) ⊎ Contains xs t
contains_cons x xs t (zero, l, e) = inl e
contains_cons x xs t (suc k, l, e) = inr (k, omega arith, e)

contains_rest : (x : List Atom) (xs : List (List Atom)) (t : List Atom) → Contains xs t → Contains (x ∷ xs) t
contains_rest x xs t c = (suc c.0, (let l = c.1 in omega arith), c.2)

contains_first : (x : List Atom) (xs : List (List Atom)) → Contains (x ∷ xs) x
contains_first x xs = (zero, omega arith, refl)

-- the first tuple is below each later one
first_below : (x : List Atom) (xs : List (List Atom)) (t : List Atom) → IsAscending (x ∷ xs) → Contains xs t → tuple_cmp x t ≡ Less
first_below x xs t up c = subst (λ u. tuple_cmp x u ≡ Less) c.2 (up zero (suc c.0) t (omega arith) (let l = c.1 in omega arith))

rest_ascending : (x : List Atom) (xs : List (List Atom)) → IsAscending (x ∷ xs) → IsAscending xs
rest_ascending x xs up i j d less in' = up (suc i) (suc j) d (omega arith) (omega arith)

not_below_itself : (t : List Atom) → tuple_cmp t t ≡ Less → ⊥
not_below_itself t e = let same = tied_itself tuple_order t in cc

not_both_below : (s t : List Atom) → tuple_cmp s t ≡ Less → tuple_cmp t s ≡ Less → ⊥
not_both_below s t e f = let g = flip s t Less e in cc

-- sorted lists with the same tuples are equal
pub same_lists : (xs ys : List (List Atom)) → IsAscending xs → IsAscending ys → ((t : List Atom) → Contains xs t → Contains ys t) → ((t : List Atom) → Contains ys t → Contains xs t) → xs ≡ ys
same_lists [] [] up up' to back = refl
same_lists [] (y ∷ ys) up up' to back = absurd (let l = (back y (contains_first y ys)).1 in omega arith)
same_lists (x ∷ xs) [] up up' to back = absurd (let l = (to x (contains_first x xs)).1 in omega arith)
same_lists (x ∷ xs) (y ∷ ys) up up' to back =
    let heads : x ≡ y = elim (contains_cons y ys x (to x (contains_first x xs))) [
      | inl e ↦ sym e
      | inr c ↦ elim (contains_cons x xs y (back y (contains_first y ys))) [
        | inl e ↦ e
        | inr d ↦ absurd (not_both_below x y (first_below x xs y up d) (first_below y ys x up' c))
      ]
    ] in
    ap (λ z. z ∷ xs) heads ∙ ap (λ zs. y ∷ zs) (same_lists xs ys (rest_ascending x xs up) (rest_ascending y ys up')
    (λ t c. elim (contains_cons y ys t (to t (contains_rest x xs t c))) [
      | inl e ↦ absurd (not_below_itself t (subst (λ s. tuple_cmp s t ≡ Less) (heads ∙ e) (first_below x xs t up c)))
      | inr d ↦ d
    ])
    (λ t c. elim (contains_cons x xs t (back t (contains_rest y ys t c))) [
      | inl e ↦ absurd (not_below_itself t (subst (λ s. tuple_cmp s t ≡ Less) (sym heads ∙ e) (first_below y ys t up' c)))
      | inr d ↦ d
    ]))

-- sets of one arity with the same tuples are equal
pub same_rows : (v w : Rows) → IsRows v → IsRows w → v.arity ≡ w.arity → Same (Contains v.rows) (Contains w.rows) → v ≡ w
same_rows v w p q e s = same_set v w e (same_lists v.rows w.rows p.ascending q.ascending s.to s.back)
