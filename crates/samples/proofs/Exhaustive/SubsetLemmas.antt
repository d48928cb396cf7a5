-- The list of all sets of numbers below a bound.
use Rattle.std.proofs.Common.{◌≡◌, ◌≢◌, ℕ, zero, suc, ◌+◌, ◌^◌, ◌<◌, ◌≤◌, ◌↔◌, ◌⊎◌, inl, inr, List, [], ◌∷◌, ◌++◌, map, length, get_or, Contains, AllPairs, refl, sym, ◌∙◌, ap, subst, arith, add-one, take, append_assoc}
use Rattle.std.proofs.lemmas.Bool.{cases_lt}
use Rattle.std.proofs.lemmas.List.{append_cancel_right, length-append, length-map, length_push, get_or_append_left, map-append}
use Rattle.std.proofs.Math.Seq.{take-suc}
use Rattle.std.proofs.Math.Nat.{two-pow-succ}
use Rattle.std.proofs.Math.Pow.{pow_mono}
use Rattle.std.proofs.lemmas.List.Quantifiers.{all_pairs_push}
use Rattle.std.proofs.lemmas.List.Elements.{All-contains, All-nil, All-cons, All-head, All-tail, All-weaker, All-push, Contains-append_cases, Contains-append_left, Contains-append_right, Contains-push, Contains-push_cases, Contains-get_or}
use Rattle.rel_formula.proofs.RisingNumbers.{Rises}
use Rattle.rel_formula.proofs.Lists.{pairs_nil, pairs_head, pairs_tail, pairs_append, pairs_map}
use Rattle.rel_formula.proofs.OpenCells.{cons_cases, cons_first, map_has, has_map}
use Rattle.rel_formula.specs.Instance.{with_cell}
use Rattle.rel_formula.proofs.SameNumbers.{same_rising}
use Rattle.rel_formula.proofs.WithCell.{with_cell_has, with_cell_rises}
use Rattle.samples.specs.Exhaustive.Subsets.{IsRisingBelow}

abbrev pub with : ℕ → List ℕ → List ℕ
with n s = s ++ n ∷ []

abbrev pub subsets : ℕ → List (List ℕ)
subsets zero = [] ∷ []
subsets (suc n) = subsets n ++ map (with n) (subsets n)

pub no_numbers : (n : ℕ) → IsRisingBelow n []
no_numbers n = record { below = All-nil (λ k. k < n); rising = pairs_nil (λ j k. j < k) }

pub more_below : (n : ℕ) (s : List ℕ) → IsRisingBelow n s → IsRisingBelow (suc n) s
more_below n s is = record { below = All-weaker (λ k. k < n) (λ k. k < suc n) (λ k l. omega arith) s is.below; rising = is.rising }

pub with_last : (n : ℕ) (s : List ℕ) → IsRisingBelow n s → IsRisingBelow (suc n) (with n s)
with_last n s is = record {
  below = All-push (λ k. k < suc n) s n (more_below n s is).below (omega arith);
  rising = all_pairs_push (λ j k. j < k) s n is.rising (λ k d l. is.below k d l);
}

empty_is : (xs : List ℕ) → ((k : ℕ) → Contains xs k → ⊥) → xs ≡ []
empty_is [] h = refl
empty_is (x ∷ xs) h = absurd (h x (cons_first x xs))

-- the front of a rising list rises
front_up : (n : ℕ) (s front : List ℕ) → s ≡ with n front → Rises s → Rises front
front_up n s front is up i j d l h =
    let long : length (with n front) ≡ length front + 1 = length_push front n in
    let up' : Rises (with n front) = subst Rises is up in
    let at = up' i j d l (omega arith) in
    subst (λ a. a < get_or front j d) (get_or_append_left front (n ∷ []) d i (omega arith))
    (subst (λ b. get_or (with n front) i d < b) (get_or_append_left front (n ∷ []) d j h) at)

-- the last number of a set below n + 1 is n, or it is a set below n
record Last (n : ℕ) (s : List ℕ) : Type 0 where
  front : List ℕ
  is : s ≡ with n front
  below : IsRisingBelow n front

last_cases : (n : ℕ) (s : List ℕ) → IsRisingBelow (suc n) s → IsRisingBelow n s ⊎ Last n s
last_cases n [] is = inl (no_numbers n)
last_cases n (x ∷ xs) is =
    let up = is.rising in
    let less = All-head (λ k. k < suc n) x xs is.below in
    let above = pairs_head (λ j k. j < k) x xs up in
    let tail : IsRisingBelow (suc n) xs = record { below = All-tail (λ k. k < suc n) x xs is.below; rising = pairs_tail (λ j k. j < k) x xs up } in
    elim (last_cases n xs tail) [
      | inl short ↦ elim (cases_lt x n) [
        | inl l ↦ inl (record { below = All-cons (λ k. k < n) x xs l short.below; rising = up })
        | inr past ↦ inr (record {
          front = [];
          is = let none : xs ≡ [] = empty_is xs (λ k c. let h = All-contains (λ k. k < n) xs k short.below c in let g = All-contains (λ k. x < k) xs k above c in omega arith) in
              ap (λ zs. x ∷ zs) none ∙ ap (λ z. z ∷ []) (let e : x ≡ n = omega arith in e);
          below = no_numbers n;
        })
      ]
      | inr long ↦
          let l : x < n = All-contains (λ k. x < k) xs n above (subst (λ zs. Contains zs n) (sym long.is) (Contains-push long.front n)) in
          inr (record {
            front = x ∷ long.front;
            is = ap (λ zs. x ∷ zs) long.is;
            below = record {
              below = All-cons (λ k. k < n) x long.front l long.below.below;
              rising = front_up n (x ∷ xs) (x ∷ long.front) (ap (λ zs. x ∷ zs) long.is) up;
            };
          })
    ]

pub has_subset : (n : ℕ) (s : List ℕ) → Contains (subsets n) s → IsRisingBelow n s
has_subset zero s c = elim (cons_cases [] [] s c) [ inl e ↦ subst (IsRisingBelow zero) e (no_numbers zero) | inr none ↦ absurd (let l = none.1 in omega arith) ]
has_subset (suc n) s c = elim (Contains-append_cases (subsets n) (map (with n) (subsets n)) s c) [
  | inl old ↦ more_below n s (has_subset n s old)
  | inr new ↦ let h = map_has (with n) (subsets n) s new in subst (IsRisingBelow (suc n)) (sym h.2) (with_last n h.0 (has_subset n h.0 h.1))
]

pub subset_has : (n : ℕ) (s : List ℕ) → IsRisingBelow n s → Contains (subsets n) s
subset_has zero [] is = cons_first [] []
subset_has zero (x ∷ xs) is = absurd (let l = All-head (λ k. k < zero) x xs is.below in omega arith)
subset_has (suc n) s is = elim (last_cases n s is) [
  | inl short ↦ Contains-append_left (subsets n) (map (with n) (subsets n)) s (subset_has n s short)
  | inr long ↦ Contains-append_right (subsets n) (map (with n) (subsets n)) s (subst (Contains (map (with n) (subsets n))) (sym long.is) (has_map (with n) (subsets n) long.front (subset_has n long.front long.below)))
]

pub subsets_once : (n : ℕ) → AllPairs (λ s t. s ≢ t) (subsets n)
subsets_once zero = λ i j d l h. absurd (omega arith)
subsets_once (suc n) =
    pairs_append (λ s t. s ≢ t) (subsets n) (map (with n) (subsets n)) (subsets_once n)
    (pairs_map (λ s t. s ≢ t) (with n) (subsets n) (λ i j d l h e. subsets_once n i j d l h (append_cancel_right (get_or (subsets n) i d) (get_or (subsets n) j d) (n ∷ []) e)))
    (λ k d l m e o same.
    let s = get_or (subsets n) k d in
    let old = has_subset n s (Contains-get_or (subsets n) k d l) in
    let new = map_has (with n) (subsets n) (get_or (map (with n) (subsets n)) m e) (Contains-get_or (map (with n) (subsets n)) m e o) in
    let n_in : Contains s n = subst (λ zs. Contains zs n) (sym (same ∙ new.2)) (Contains-push new.0 n) in
    let f = All-contains (λ k. k < n) s n old.below n_in in
    omega arith)

pub subsets_are : (n : ℕ) (s : List ℕ) → Contains (subsets n) s ↔ IsRisingBelow n s
subsets_are n s = (has_subset n s, subset_has n s)

pub subsets_more : (n : ℕ) → subsets (n + 1) ≡ subsets n ++ map (with n) (subsets n)
subsets_more n = ap subsets (add-one n)

-- a set with one number more, which comes after its own
pub with_is : (n : ℕ) (s : List ℕ) → IsRisingBelow n s → with_cell n s ≡ with n s
with_is n s is =
    let has = with_cell_has n s in
    same_rising (with_cell n s) (with n s) (with_cell_rises n s is.rising) (with_last n s is).rising (λ k. (
      λ c. elim ((has k).0 c) [ inl d ↦ Contains-append_left s (n ∷ []) k d | inr e ↦ subst (Contains (with n s)) (sym e) (Contains-push s n) ],
      λ c. (has k).1 (elim (Contains-push_cases s n k c) [ inl d ↦ inl d | inr e ↦ inr (sym e) ]),
    ))

-- the element at a place of the front
pub front_of : (xs ys zs : List (List ℕ)) (i : ℕ) (d : List ℕ) → zs ≡ xs ++ ys → i < length xs → get_or zs i d ≡ get_or xs i d
front_of xs ys zs i d e l = ap (λ (ws : List (List ℕ)). get_or ws i d) e ∙ get_or_append_left xs ys d i l

-- one set with one number more
pub with_more : (n : ℕ) (xs zs : List (List ℕ)) (i : ℕ) (d : List ℕ) → i < length xs → zs ≡ xs ++ map (with n) (take i xs) → zs ++ with n (get_or xs i d) ∷ [] ≡ xs ++ map (with n) (take (i + 1) xs)
with_more n xs zs i d l e =
    let x = get_or xs i d in
    ap (λ ws. ws ++ with n x ∷ []) e ∙ append_assoc xs (map (with n) (take i xs)) (with n x ∷ [])
    ∙ ap (λ ws. xs ++ ws) (sym (map-append (with n) (take i xs) (x ∷ [])) ∙ ap (map (with n)) (sym (ap (λ k. take k xs) (add-one i) ∙ take-suc xs i d l)))

subsets_len : (n : ℕ) → length (subsets n) ≡ 2 ^ n
subsets_len zero = refl
subsets_len (suc n) =
    let both = length-append (subsets n) (map (with n) (subsets n)) in
    let same = length-map (subsets n) (with n) in
    let half = subsets_len n in
    let whole = two-pow-succ n in
    omega arith

-- there are at most 4,096 sets of at most 12 numbers
pub subsets_few : (n : ℕ) → n ≤ 12 → length (subsets n) ≤ 4096
subsets_few n l = let e = subsets_len n in let h : 2 ^ n ≤ 2 ^ 12 = pow_mono l in omega arith
