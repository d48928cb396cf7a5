-- Where no predicate or function calls itself, calls go down a rank: the length of the longest way on by calls.
use Rattle.std.specs.Prelude.{slice_index_or, filter, ◌||◌}
use Rattle.std.specs.List.{list_any, range_with_len}
use Rattle.std.proofs.Common.{◌≡◌, ◌≢◌, ◌⊎◌, inl, inr, ℕ, zero, suc, ◌+◌, ◌-◌, ◌<◌, ◌≤◌, ◌==◌, nat_lt, nat_le, List, [], ◌∷◌, ◌++◌, map, length, Contains, All, AllPairs, Bool, true, false, if◌then◌else◌, refl, sym, ◌∙◌, ap, subst, arith, zero-add, add-zero}
use Rattle.std.proofs.lemmas.Bool.Decides.{nat_tests}
use Rattle.std.proofs.lemmas.List.{length-map, get_or-map}
use Rattle.std.proofs.lemmas.List.FromFn.{length-range_with_len, get_or-range_with_len}
use Rattle.std.proofs.lemmas.List.Elements.{All-nil}
use Rattle.std.proofs.lemmas.List.Kept.{AllPairs-cons}
use Rattle.rel_formula.proofs.Lists.{pairs_nil, some_below, some_at}
use Rattle.rel_formula.proofs.OpenCells.{cons_first, cons_later, cons_cases, filter_has, has_filter, map_has, has_map}
use Rattle.alloy_lex.specs.declared.token.Place.{Place}
use Rattle.alloy_syntax.specs.Tree.{ModelTree}
use Rattle.named_model.specs.declared.fault.NameFault.TheVariants as fault
use Rattle.named_model.specs.Model.{CalleeTree, NamedTree}
use Rattle.named_model.specs.Faults.{callees_of, calls_within, recursive_from, recursive_faults, faults_in}
use Rattle.named_model.specs.Declarations.{named_of}
use Rattle.lowering_rules.specs.Calls.{IsRank}
use Rattle.rel_formula.proofs.Counts.{no_longer}

-- ---- tests over lists

or_true : (a b : Bool) → b ≡ true → (a || b) ≡ true
or_true true b e = refl
or_true false b e = e

either_true : (a b : Bool) → (a || b) ≡ true → (a ≡ true) ⊎ (b ≡ true)
either_true true b e = inl refl
either_true false b e = inr e

any_true : {X : Type 0} (test : X → Bool) (xs : List X) (x : X) → Contains xs x → test x ≡ true → list_any test xs ≡ true
any_true test [] x c e = absurd (let l = c.1 in omega arith)
any_true test (y ∷ xs) x c e = elim (cons_cases y xs x c) [
  | inl same ↦ ap (λ b. b || list_any test xs) (ap test same ∙ e)
  | inr later ↦ or_true (test y) (list_any test xs) (any_true test xs x later e)
]

any_weaker : {X : Type 0} (p q : X → Bool) → ((x : X) → p x ≡ true → q x ≡ true) → (xs : List X) → list_any p xs ≡ true → list_any q xs ≡ true
any_weaker p q h [] e = e
any_weaker p q h (x ∷ xs) e = elim (either_true (p x) (list_any p xs) e) [
  | inl here ↦ ap (λ b. b || list_any q xs) (h x here)
  | inr later ↦ or_true (q x) (list_any q xs) (any_weaker p q h xs later)
]

same_test : (n : ℕ) → (n == n) ≡ true
same_test n = grind (arith, nat_tests)

lt_true : (m n : ℕ) → m < n → nat_lt m n ≡ true
lt_true m n l = grind (arith, nat_tests)

lt_test : (m n : ℕ) → nat_lt m n ≡ true → m < n
lt_test m n e = grind (arith, nat_tests)

-- ---- the largest of some numbers

abbrev larger : ℕ → ℕ → ℕ
larger a b = if nat_le a b then b else a

abbrev largest : List ℕ → ℕ
largest [] = 0
largest (x ∷ xs) = larger x (largest xs)

le_test : (m n : ℕ) → nat_le m n ≡ true → m ≤ n
le_test m n e = grind (arith, nat_tests)

gt_test : (m n : ℕ) → nat_le m n ≡ false → n < m
gt_test m n e = grind (arith, nat_tests)

larger_over : (a b : ℕ) → (a ≤ larger a b) × (b ≤ larger a b) × ((larger a b ≡ a) ⊎ (larger a b ≡ b))
larger_over a b =
    let go : (t : Bool) → nat_le a b ≡ t → (a ≤ (if t then b else a)) × (b ≤ (if t then b else a)) × (((if t then b else a) ≡ a) ⊎ ((if t then b else a) ≡ b)) =
    λ t. elim t as (λ t. nat_le a b ≡ t → (a ≤ (if t then b else a)) × (b ≤ (if t then b else a)) × (((if t then b else a) ≡ a) ⊎ ((if t then b else a) ≡ b))) [
      | true ↦ λ e. (le_test a b e, omega arith, inr refl)
      | false ↦ λ e. (omega arith, let l = gt_test a b e in omega arith, inl refl)
    ] in
    go (nat_le a b) refl

largest_over : (xs : List ℕ) (x : ℕ) → Contains xs x → x ≤ largest xs
largest_over [] x c = absurd (let l = c.1 in omega arith)
largest_over (y ∷ xs) x c =
    let o = larger_over y (largest xs) in
    let first = o.0 in
    let second = o.1 in
    elim (cons_cases y xs x c) [
      | inl same ↦ subst (λ z. z ≤ larger y (largest xs)) same first
      | inr later ↦ (let l = largest_over xs x later in omega arith)
    ]

largest_is : (xs : List ℕ) → (largest xs ≡ 0) ⊎ Contains xs (largest xs)
largest_is [] = inl refl
largest_is (y ∷ xs) = elim (larger_over y (largest xs)).2 [
  | inl first ↦ inr (subst (Contains (y ∷ xs)) (sym first) (cons_first y xs))
  | inr second ↦ elim (largest_is xs) [
    | inl none ↦ inl (second ∙ none)
    | inr has ↦ inr (subst (Contains (y ∷ xs)) (sym second) (cons_later y xs (largest xs) has))
  ]
]

-- ---- ways on by calls

module _ (callees : List (List ℕ)) where
  abbrev count : ℕ
  count = length callees

  -- what is called and is there
  abbrev next : ℕ → List ℕ
  next c = filter (λ q. nat_lt q count) (slice_index_or callees c [])

  abbrev depth : ℕ → ℕ → ℕ
  depth zero c = 0
  depth (suc n) c = largest (map (λ q. suc (depth n q)) (next c))

  abbrev IsWay : ℕ → List ℕ → Type 0
  IsWay c [] = Unit {0}
  IsWay c (q ∷ qs) = Contains (next c) q × IsWay q qs

  way_of : (n c : ℕ) → (qs : List ℕ) × IsWay c qs × (length qs ≡ depth n c)
  way_of zero c = ([], tt, refl)
  way_of (suc n) c = elim (largest_is (map (λ q. suc (depth n q)) (next c))) [
    | inl none ↦ ([], tt, sym none)
    | inr has ↦
        let q = map_has (λ q. suc (depth n q)) (next c) (largest (map (λ q. suc (depth n q)) (next c))) has in
        let rest = way_of n q.0 in
        (q.0 ∷ rest.0, (q.1, rest.1), (let e = rest.2 in let f = q.2 in omega arith))
  ]

  depth_most : (n c : ℕ) → depth n c ≤ n
  depth_most zero c = omega arith
  depth_most (suc n) c = elim (largest_is (map (λ q. suc (depth n q)) (next c))) [
    | inl none ↦ omega arith
    | inr has ↦
        let q = map_has (λ q. suc (depth n q)) (next c) (largest (map (λ q. suc (depth n q)) (next c))) has in
        let f = q.2 in
        let l = depth_most n q.0 in
        omega arith
  ]

  depth_over : (n c : ℕ) (qs : List ℕ) → IsWay c qs → length qs ≤ n → length qs ≤ depth n c
  depth_over n c [] w l = omega arith
  depth_over zero c (q ∷ qs) w l = absurd (omega arith)
  depth_over (suc n) c (q ∷ qs) w l =
      let rest = depth_over n q qs w.1 (omega arith) in
      let over = largest_over (map (λ q. suc (depth n q)) (next c)) (suc (depth n q)) (has_map (λ q. suc (depth n q)) (next c) q w.0) in
      omega arith

  -- ---- a way leads by calls

  one_more : (n k l : ℕ) → calls_within callees n k l ≡ true → calls_within callees (suc n) k l ≡ true
  one_more zero k l e = any_weaker (λ r. r == l) (λ r. (r == l) || calls_within callees zero r l) (λ r h. ap (λ b. b || calls_within callees zero r l) h) (slice_index_or callees k []) e
  one_more (suc n) k l e = any_weaker (λ r. (r == l) || calls_within callees n r l) (λ r. (r == l) || calls_within callees (suc n) r l) (λ r h.
      elim (either_true (r == l) (calls_within callees n r l) h) [
        | inl here ↦ ap (λ b. b || calls_within callees (suc n) r l) here
        | inr later ↦ or_true (r == l) (calls_within callees (suc n) r l) (one_more n r l later)
      ]) (slice_index_or callees k []) e

  more : (j n k l : ℕ) → calls_within callees n k l ≡ true → calls_within callees (j + n) k l ≡ true
  more zero n k l e = let same : n ≡ 0 + n = omega arith in subst (λ i. calls_within callees i k l ≡ true) same e
  more (suc j) n k l e = let same : suc (j + n) ≡ suc j + n = omega arith in subst (λ i. calls_within callees i k l ≡ true) same (one_more (j + n) k l (more j n k l e))

  called_there : (c q : ℕ) → Contains (next c) q → Contains (slice_index_or callees c []) q × (q < count)
  called_there c q h = let f = filter_has (λ q. nat_lt q count) (slice_index_or callees c []) q h in (f.0, lt_test q count f.1)

  leads : (qs : List ℕ) (c k d : ℕ) → IsWay c qs → k < length qs → calls_within callees k c (slice_index_or qs k d) ≡ true
  leads [] c k d w l = absurd (omega arith)
  leads (q ∷ qs) c zero d w l = any_true (λ r. r == q) (slice_index_or callees c []) q (called_there c q w.0).0 (same_test q)
  leads (q ∷ qs) c (suc k) d w l =
      any_true (λ r. (r == slice_index_or qs k d) || calls_within callees k r (slice_index_or qs k d)) (slice_index_or callees c []) q (called_there c q w.0).0
      (or_true (q == slice_index_or qs k d) (calls_within callees k q (slice_index_or qs k d)) (leads qs q k d w.1 (omega arith)))

  module _ (none : (c : ℕ) → c < count → calls_within callees count c c ≡ false) where
    -- a way that isn't too long comes to nothing twice
    distinct : (qs : List ℕ) (c : ℕ) → c < count → IsWay c qs → length qs ≤ count + 1 → AllPairs (λ x y. x ≢ y) (c ∷ qs)
    distinct [] c l w few = AllPairs-cons (λ x y. x ≢ y) c [] (All-nil (λ y. c ≢ y)) (pairs_nil (λ x y. x ≢ y))
    distinct (q ∷ qs) c l w few =
        let differ : All (λ y. c ≢ y) (q ∷ qs) = λ k d here same.
        let way = leads (q ∷ qs) c k d w here in
        let back : calls_within callees k c c ≡ true = subst (λ y. calls_within callees k c y ≡ true) (sym same) way in
        let rest : (count - k) + k ≡ count = omega arith in
        let long = subst (λ i. calls_within callees i c c ≡ true) rest (more (count - k) k c c back) in
        let not = none c l in
        absurd cc in
        AllPairs-cons (λ x y. x ≢ y) c (q ∷ qs) differ (distinct qs q (called_there c q w.0).1 w.1 (omega arith))

    nodes_there : (qs : List ℕ) (c : ℕ) → c < count → IsWay c qs → (x : ℕ) → Contains (c ∷ qs) x → x < count
    nodes_there [] c l w x h = elim (cons_cases c [] x h) [ inl same ↦ subst (λ y. y < count) same l | inr none ↦ absurd (let e = none.1 in omega arith) ]
    nodes_there (q ∷ qs) c l w x h = elim (cons_cases c (q ∷ qs) x h) [
      | inl same ↦ subst (λ y. y < count) same l
      | inr later ↦ nodes_there qs q (called_there c q w.0).1 w.1 x later
    ]

    numbered : (x : ℕ) → x < count → Contains (range_with_len 0 count) x
    numbered x l =
        let long = length-range_with_len 0 count in
        (x, omega arith, get_or-range_with_len 0 count x x l ∙ zero-add x)

    short : (qs : List ℕ) (c : ℕ) → c < count → IsWay c qs → length qs ≤ count + 1 → length qs < count
    short qs c l w few =
        let less = no_longer (c ∷ qs) (range_with_len 0 count) (distinct qs c l w few) (λ x h. numbered x (nodes_there qs c l w x h)) in
        let long = length-range_with_len 0 count in
        omega arith

    below : (n c : ℕ) → n ≤ count + 1 → c < count → depth n c < count
    below n c few l =
        let w = way_of n c in
        let most = depth_most n c in
        let e = w.2 in
        let s = short w.0 c l w.1 (omega arith) in
        omega arith

    down : (c q : ℕ) → c < count → Contains (slice_index_or callees c []) q → q < count → depth count q < depth count c
    down c q l h there =
        let has = has_filter (λ q. nat_lt q count) (slice_index_or callees c []) q h (lt_true q count there) in
        let over = largest_over (map (λ q. suc (depth count q)) (next c)) (suc (depth count q)) (has_map (λ q. suc (depth count q)) (next c) q has) in
        let w = way_of (suc count) c in
        let e = w.2 in
        let most = depth_most (suc count) c in
        let s = short w.0 c l w.1 (omega arith) in
        let again = depth_over count c w.0 w.1 (omega arith) in
        omega arith

-- ---- models

empty_both : {X : Type 0} (xs ys : List X) → xs ++ ys ≡ [] → (xs ≡ []) × (ys ≡ [])
empty_both [] ys e = (refl, e)
empty_both (x ∷ xs) ys e = absurd cc

test_false : (b : Bool) (p : Place) → (if b then fault.Recursive p ∷ [] else []) ≡ [] → b ≡ false
test_false true p e = absurd cc
test_false false p e = refl

none_recursive : (callees : List (List ℕ)) (k : ℕ) (ps : List Place) → recursive_from callees k ps ≡ [] → (i : ℕ) → i < length ps → calls_within callees (length callees) (k + i) (k + i) ≡ false
none_recursive callees k [] e i l = absurd (omega arith)
none_recursive callees k (p ∷ ps) e zero l =
    let both = empty_both (if calls_within callees (length callees) k k then fault.Recursive p ∷ [] else []) (recursive_from callees (k + 1) ps) e in
    subst (λ j. calls_within callees (length callees) j j ≡ false) (sym (add-zero k)) (test_false (calls_within callees (length callees) k k) p both.0)
none_recursive callees k (p ∷ ps) e (suc i) l =
    let both = empty_both (if calls_within callees (length callees) k k then fault.Recursive p ∷ [] else []) (recursive_from callees (k + 1) ps) e in
    let same : k + 1 + i ≡ k + suc i = omega arith in
    subst (λ j. calls_within callees (length callees) j j ≡ false) same (none_recursive callees (k + 1) ps both.1 i (omega arith))

ranks_of : (m : NamedTree) → recursive_faults m.callees ≡ [] → (rank : ℕ → ℕ) × IsRank rank m
ranks_of m e =
    let callees = map callees_of m.callees in
    let long : length callees ≡ length m.callees = length-map m.callees callees_of in
    let places = map (λ (c : CalleeTree). c.place) m.callees in
    let many : length places ≡ length m.callees = length-map m.callees (λ (c : CalleeTree). c.place) in
    let none : (c : ℕ) → c < length callees → calls_within callees (length callees) c c ≡ false = λ c l.
    subst (λ j. calls_within callees (length callees) j j ≡ false) (zero-add c) (none_recursive callees 0 places e c (omega arith)) in (
      depth callees (length callees),
      record {
        down = λ c q callee at h there.
            let l = some_below m.callees c callee at in
            let here : slice_index_or callees c [] ≡ callees_of callee = get_or-map callees_of m.callees c callee [] l ∙ ap callees_of (some_at m.callees c callee callee at) in
            down callees none c q (omega arith) (subst (λ qs. Contains qs q) (sym here) h) (omega arith);
        below = λ c l. let low = below callees none (length callees) c (omega arith) (omega arith) in omega arith;
      },
    )

pub ranks : (t : ModelTree) → faults_in t ≡ [] → (rank : ℕ → ℕ) × IsRank rank (named_of t)
ranks t e =
    let last = empty_both _ _ e in
    ranks_of (named_of t) (empty_both _ _ last.0).1
