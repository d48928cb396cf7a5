-- Scenarios in order.
use Rattle.std.proofs.Common.{◌≡◌, ◌≢◌, ◌⊎◌, inl, inr, ◌<◌, ◌≤◌, ◌+◌, ◌-◌, ℕ, Bool, true, false, cond, ltb, List, [], ◌∷◌, ◌++◌, take, drop, length, get_or, AllPairs, Contains, IsTrue, refl, sym, ◌∙◌, ap, subst, arith}
use Rattle.std.specs.List.{insert}
use Rattle.std.proofs.lemmas.Bool.{cases_lt, lt-ltb, le-ltb}
use Rattle.std.proofs.lemmas.List.{get_or_default, at_drop_more, at_drop_all, length-take-le, get_or-take, take_more, take-append-drop}
use Rattle.std.proofs.lemmas.List.Elements.{Contains-get_or, Contains-append_left, Contains-append_right, Contains-append_cases, Contains-push, Contains-push_cases}
use Rattle.std.proofs.lemmas.List.Edits.{length-insert, get_or-insert_below, get_or-insert_at, get_or-insert_above}
use Rattle.rel_formula.proofs.RisingNumbers.{Rises}
use Rattle.rel_formula.proofs.Lists.{pairs_nil, pairs_tail}
use Rattle.rel_formula.proofs.OpenCells.{cons_cases, cons_first, cons_later}
use Rattle.swap_symmetry.specs.Order.{IsEarlier}
use Rattle.swap_symmetry.proofs.ScenarioOrders.{goes_on, least, not_again}
use Rattle.session_state.specs.Sessions.Listed.{comes_first, AreInOrder}

-- what the test says of the order
pub record Says (xs ys : List ℕ) (first : Bool) : Type 0 where
  pub earlier : IsTrue first → IsEarlier xs ys
  pub other : ¬ IsTrue first → (xs ≡ ys) ⊎ IsEarlier ys xs

nothing_in : (n : ℕ) → Contains [] n → ⊥
nothing_in n c = let l = c.1 in omega arith

before_nothing : (x : ℕ) (xs : List ℕ) → Rises (x ∷ xs) → IsEarlier (x ∷ xs) []
before_nothing x xs up =
    (x, cons_first x xs, nothing_in x, λ m l. (λ c. absurd (let m = least x xs m up c in omega arith), λ c. absurd (nothing_in m c)))

smaller_first : (x y : ℕ) (xs ys : List ℕ) → Rises (x ∷ xs) → Rises (y ∷ ys) → x < y → IsEarlier (x ∷ xs) (y ∷ ys)
smaller_first x y xs ys up vp less = (
  x,
  cons_first x xs,
  λ c. let m = least y ys x vp c in omega arith,
  λ m l. (λ c. absurd (let k = least x xs m up c in omega arith), λ c. absurd (let k = least y ys m vp c in omega arith)),
)

same_first : (x : ℕ) (xs ys : List ℕ) → Rises (x ∷ xs) → IsEarlier xs ys → IsEarlier (x ∷ xs) (x ∷ ys)
same_first x xs ys up e = (
  e.0,
  cons_later x xs e.0 e.1,
  λ c. elim (cons_cases x ys e.0 c) [ inl same ↦ not_again x xs up (subst (Contains xs) (sym same) e.1) | inr d ↦ e.2 d ],
  λ m l. (
    λ c. elim (cons_cases x xs m c) [ inl same ↦ subst (Contains (x ∷ ys)) same (cons_first x ys) | inr d ↦ cons_later x ys m ((e.3 m l).0 d) ],
    λ c. elim (cons_cases x ys m c) [ inl same ↦ subst (Contains (x ∷ xs)) same (cons_first x xs) | inr d ↦ cons_later x xs m ((e.3 m l).1 d) ],
  ),
)

pub says : (xs ys : List ℕ) → Rises xs → Rises ys → Says xs ys (comes_first xs ys)
says [] [] up vp = record { earlier = λ t. absurd (let e : false ≡ true = t in cc); other = λ f. inl refl }
says [] (y ∷ ys) up vp = record { earlier = λ t. absurd (let e : false ≡ true = t in cc); other = λ f. inr (before_nothing y ys vp) }
says (x ∷ xs) [] up vp = record { earlier = λ t. before_nothing x xs up; other = λ f. absurd (f refl) }
says (x ∷ xs) (y ∷ ys) up vp =
    let P : Bool → Type 0 = Says (x ∷ xs) (y ∷ ys) in
    elim (cases_lt x y) [
      | inl less ↦
          subst (λ b. P (cond b true (cond (ltb y x) false (comes_first xs ys)))) (sym (lt-ltb x y less))
          (record { earlier = λ t. smaller_first x y xs ys up vp less; other = λ f. absurd (f refl) })
      | inr past ↦ elim (cases_lt y x) [
        | inl less ↦
            subst (λ b. P (cond b true (cond (ltb y x) false (comes_first xs ys)))) (sym (le-ltb x y past))
            (subst (λ b. P (cond b false (comes_first xs ys))) (sym (lt-ltb y x less))
            (record { earlier = λ t. absurd (let e : false ≡ true = t in cc); other = λ f. inr (smaller_first y x ys xs vp up less) }))
        | inr back ↦
            let same : x ≡ y = omega arith in
            let vp' : Rises (x ∷ ys) = subst (λ z. Rises (z ∷ ys)) (sym same) vp in
            let rest = says xs ys (pairs_tail (λ m k. m < k) x xs up) (pairs_tail (λ m k. m < k) y ys vp) in
            let here : Says (x ∷ xs) (x ∷ ys) (comes_first xs ys) = record {
              earlier = λ t. same_first x xs ys up (rest.earlier t);
              other = λ f. elim (rest.other f) [ inl e ↦ inl (ap (λ zs. x ∷ zs) e) | inr e ↦ inr (same_first x ys xs vp' e) ];
            } in
            subst (λ b. P (cond b true (cond (ltb y x) false (comes_first xs ys)))) (sym (le-ltb x y past))
            (subst (λ b. P (cond b false (comes_first xs ys))) (sym (le-ltb y x back))
            (subst (λ z. Says (x ∷ xs) (z ∷ ys) (comes_first xs ys)) same here))
      ]
    ]

-- one more, between those that are earlier and those that are later
module _ (xs : List (List ℕ)) (n : ℕ) (s : List ℕ) (sorted : AllPairs IsEarlier xs) (le : n ≤ length xs)
    (before : (k : ℕ) → k < n → IsEarlier (get_or xs k []) s) (behind : (k : ℕ) → n ≤ k → k < length xs → IsEarlier s (get_or xs k [])) where
  at_default : (k : ℕ) (d : List ℕ) → k < length xs → get_or xs k [] ≡ get_or xs k d
  at_default k d l = get_or_default xs k [] d l

  pub sorted_with : AllPairs IsEarlier (insert xs n s)
  sorted_with i j d less in' =
      let long : length (insert xs n s) ≡ length xs + 1 = length-insert xs n s le in
      elim (cases_lt j n) [
        | inl low ↦
            let e : get_or (insert xs n s) i d ≡ get_or xs i d = get_or-insert_below xs n s d i (omega arith) le in
            let f : get_or (insert xs n s) j d ≡ get_or xs j d = get_or-insert_below xs n s d j low le in
            rw (e, f) (sorted i j d less (omega arith))
        | inr high ↦ elim (cases_lt n j) [
          | inr at ↦
              let same : j ≡ n = omega arith in
              let e : get_or (insert xs n s) i d ≡ get_or xs i d = get_or-insert_below xs n s d i (omega arith) le in
              let f : get_or (insert xs n s) j d ≡ s = ap (λ k. get_or (insert xs n s) k d) same ∙ get_or-insert_at xs n s d le in
              rw (e, f) (subst (λ x. IsEarlier x s) (at_default i d (omega arith)) (before i (omega arith)))
          | inl above ↦
              let back : (j - 1) + 1 ≡ j = omega arith in
              let f : get_or (insert xs n s) j d ≡ get_or xs (j - 1) d = ap (λ k. get_or (insert xs n s) k d) (sym back) ∙ get_or-insert_above xs n s d (j - 1) (omega arith) le in
              elim (cases_lt i n) [
                | inl low ↦
                    let e : get_or (insert xs n s) i d ≡ get_or xs i d = get_or-insert_below xs n s d i low le in
                    rw (e, f) (sorted i (j - 1) d (omega arith) (omega arith))
                | inr up ↦ elim (cases_lt n i) [
                  | inr at ↦
                      let same : i ≡ n = omega arith in
                      let e : get_or (insert xs n s) i d ≡ s = ap (λ k. get_or (insert xs n s) k d) same ∙ get_or-insert_at xs n s d le in
                      rw (e, f) (subst (IsEarlier s) (at_default (j - 1) d (omega arith)) (behind (j - 1) (omega arith) (omega arith)))
                  | inl over ↦
                      let again : (i - 1) + 1 ≡ i = omega arith in
                      let e : get_or (insert xs n s) i d ≡ get_or xs (i - 1) d = ap (λ k. get_or (insert xs n s) k d) (sym again) ∙ get_or-insert_above xs n s d (i - 1) (omega arith) le in
                      rw (e, f) (sorted (i - 1) (j - 1) d (omega arith) (omega arith))
                ]
              ]
        ]
      ]

-- one step of the test, at the same place of both lists
pub turn : (xs ys : List ℕ) (i : ℕ) → i < length xs → i < length ys →
    comes_first (drop i xs) (drop i ys) ≡ cond (ltb (get_or xs i 0) (get_or ys i 0)) true (cond (ltb (get_or ys i 0) (get_or xs i 0)) false (comes_first (drop (i + 1) xs) (drop (i + 1) ys)))
turn xs ys i l m = at_drop_more (λ us. comes_first us (drop i ys)) xs i 0 l ∙ at_drop_more (λ vs. comes_first (get_or xs i 0 ∷ drop (i + 1) xs) vs) ys i 0 m

pub same_here : (xs ys : List ℕ) (i : ℕ) → i < length xs → i < length ys → get_or xs i 0 ≡ get_or ys i 0 → comes_first (drop i xs) (drop i ys) ≡ comes_first (drop (i + 1) xs) (drop (i + 1) ys)
same_here xs ys i l m same =
    turn xs ys i l m
    ∙ ap (λ b. cond b true (cond (ltb (get_or ys i 0) (get_or xs i 0)) false (comes_first (drop (i + 1) xs) (drop (i + 1) ys)))) (le-ltb (get_or xs i 0) (get_or ys i 0) (omega arith))
    ∙ ap (λ b. cond b false (comes_first (drop (i + 1) xs) (drop (i + 1) ys))) (le-ltb (get_or ys i 0) (get_or xs i 0) (omega arith))

-- the second list is over first
pub beyond : (xs ys : List ℕ) (i : ℕ) → i < length xs → length ys ≤ i → comes_first (drop i xs) (drop i ys) ≡ true
beyond xs ys i l le = at_drop_more (λ us. comes_first us (drop i ys)) xs i 0 l ∙ at_drop_all (λ vs. comes_first (get_or xs i 0 ∷ drop (i + 1) xs) vs) ys i le

-- the first list is over
pub over : (xs zs : List ℕ) (i : ℕ) → length xs ≤ i → comes_first (drop i xs) zs ≡ false
over xs zs i le = at_drop_all (λ us. comes_first us zs) xs i le

-- what is earlier than a scenario, and what is not, in a list in order
module _ (xs : List (List ℕ)) (s : List ℕ) (sorted : AllPairs IsEarlier xs) (middle : ℕ) (below : middle < length xs) where
  pub up_to : IsEarlier (get_or xs middle []) s → (k : ℕ) → k < middle + 1 → IsEarlier (get_or xs k []) s
  up_to h k l = elim (cases_lt k middle) [
    | inl less ↦ goes_on (get_or xs k []) (get_or xs middle []) s (sorted k middle [] less below) h
    | inr past ↦ let same : middle ≡ k = omega arith in subst (λ n. IsEarlier (get_or xs n []) s) same h
  ]

  pub from_on : (get_or xs middle [] ≡ s) ⊎ IsEarlier s (get_or xs middle []) → (k : ℕ) → middle ≤ k → k < length xs → (get_or xs k [] ≡ s) ⊎ IsEarlier s (get_or xs k [])
  from_on h k l in' = elim (cases_lt middle k) [
    | inr past ↦ let same : middle ≡ k = omega arith in subst (λ n. (get_or xs n [] ≡ s) ⊎ IsEarlier s (get_or xs n [])) same h
    | inl less ↦
        let later : IsEarlier (get_or xs middle []) (get_or xs k []) = sorted middle k [] less in' in
        elim h [
          | inl e ↦ inr (subst (λ x. IsEarlier x (get_or xs k [])) e later)
          | inr e ↦ inr (goes_on s (get_or xs middle []) (get_or xs k []) e later)
        ]
  ]

-- what is inserted is there, beside what was
module _ (xs : List (List ℕ)) (n : ℕ) (y x : List ℕ) where
  pub was_or_is : Contains (insert xs n y) x → Contains xs x ⊎ (x ≡ y)
  was_or_is c = elim (Contains-append_cases (take n xs) (y ∷ drop n xs) x c) [
    | inl front ↦ inl (subst (λ (zs : List (List ℕ)). Contains zs x) (take-append-drop n xs) (Contains-append_left (take n xs) (drop n xs) x front))
    | inr back ↦ elim (cons_cases y (drop n xs) x back) [
      | inl same ↦ inr (sym same)
      | inr rest ↦ inl (subst (λ (zs : List (List ℕ)). Contains zs x) (take-append-drop n xs) (Contains-append_right (take n xs) (drop n xs) x rest))
    ]
  ]

  pub stays : Contains xs x → Contains (insert xs n y) x
  stays c = elim (Contains-append_cases (take n xs) (drop n xs) x (subst (λ (zs : List (List ℕ)). Contains zs x) (sym (take-append-drop n xs)) c)) [
    | inl front ↦ Contains-append_left (take n xs) (y ∷ drop n xs) x front
    | inr back ↦ Contains-append_right (take n xs) (y ∷ drop n xs) x (cons_later y (drop n xs) x back)
  ]

  pub is_there : x ≡ y → Contains (insert xs n y) x
  is_there e = subst (Contains (insert xs n y)) (sym e) (Contains-append_right (take n xs) (y ∷ drop n xs) y (cons_first y (drop n xs)))

-- nothing is listed
pub none_listed : (all : List (List ℕ)) → AreInOrder (take 0 all) []
none_listed all = record { same = λ x. (λ c. c, λ c. c); sorted = pairs_nil IsEarlier }

-- one scenario more of those that are listed
module _ (all : List (List ℕ)) (i : ℕ) (listed : List (List ℕ)) (lists : AreInOrder (take i all) listed) (distinct : AllPairs (λ (x y : List ℕ). x ≢ y) all) (s : List ℕ) (below : i < length all) (is : s ≡ get_or all i s) where
  -- it was not there
  fresh : ¬ Contains listed s
  fresh c =
      let (k, l, e) = (lists.same s).0 c in
      let short : length (take i all) ≡ i = length-take-le i all (omega arith) in
      distinct k i s (omega arith) below (sym (get_or-take i all k s (omega arith)) ∙ e ∙ is)

  module _ (place : ℕ) (le : place ≤ length listed) (before : (k : ℕ) → k < place → IsEarlier (get_or listed k []) s)
      (behind : (k : ℕ) → place ≤ k → k < length listed → (get_or listed k [] ≡ s) ⊎ IsEarlier s (get_or listed k [])) where
    later : (k : ℕ) → place ≤ k → k < length listed → IsEarlier s (get_or listed k [])
    later k l in' = elim (behind k l in') [
      | inl e ↦ absurd (fresh (subst (Contains listed) e (Contains-get_or listed k [] in')))
      | inr e ↦ e
    ]

    more : take (i + 1) all ≡ take i all ++ s ∷ []
    more = take_more all i s below ∙ ap (λ (x : List ℕ). take i all ++ x ∷ []) (sym is)

    pub lists_more : AreInOrder (take (i + 1) all) (insert listed place s)
    lists_more = record {
      same = λ x. (
        λ c. subst (λ (zs : List (List ℕ)). Contains zs x) (sym more) (elim (was_or_is listed place s x c) [
          | inl was ↦ Contains-append_left (take i all) (s ∷ []) x ((lists.same x).0 was)
          | inr e ↦ subst (Contains (take i all ++ s ∷ [])) (sym e) (Contains-push (take i all) s)
        ]),
        λ c. elim (Contains-push_cases (take i all) s x (subst (λ (zs : List (List ℕ)). Contains zs x) more c)) [
          | inl was ↦ stays listed place s x ((lists.same x).1 was)
          | inr e ↦ is_there listed place s x (sym e)
        ],
      );
      sorted = sorted_with listed place s lists.sorted le before later;
    }
