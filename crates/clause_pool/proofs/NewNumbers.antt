-- New numbers of members, where some are kept.
use Rattle.std.proofs.Common.{◌≡◌, ◌≢◌, ◌==◌, ◌<◌, ◌≤◌, ◌+◌, ◌-◌, ◌++◌, [], ◌∷◌, ℕ, zero, suc, Bool, true, false, not, List, length, map, get_or, take, drop, replicate, arith, sym, ◌∙◌, ap, inl, inr, refl, subst, zero-add, length-append, append-nil}
use Rattle.std.proofs.lemmas.Bool.{cases_Bool, cases_lt, eqb-true, eqb-false}
use Rattle.std.proofs.lemmas.List.{map-append, length-map, length-replicate, get_or-append-add, get_or_append_left, get_or-replicate, get_or_past, get_or-map}
use Rattle.std.specs.Prelude.{if◌then◌else◌}
use Rattle.refutation_check.specs.Renumbering.{kept_number, not_local}
use Rattle.clause_pool.specs.Freeing.{new_number}
use Rattle.clause_pool.specs.Pooled.{marks_of, HasNewNumbers, IsTable}

-- ---- how many of the first members are kept

kept_front : (n : ℕ) (xs ys : List Bool) → n ≤ length xs → kept_number n (xs ++ ys) ≡ kept_number n xs
kept_front zero xs ys h = refl
kept_front (suc n) [] ys h = absurd (omega arith)
kept_front (suc n) (x ∷ xs) ys h = ap (λ (m : ℕ). (if x then 1 else 0) + m) (kept_front n xs ys (omega arith))

kept_behind : (xs ys : List Bool) (n : ℕ) → kept_number (length xs + n) (xs ++ ys) ≡ kept_number (length xs) xs + kept_number n ys
kept_behind [] ys n = rw (zero-add n) (sym (zero-add (kept_number n ys)))
kept_behind (x ∷ xs) ys n =
    let e : length (x ∷ xs) + n ≡ suc (length xs + n) = omega arith in
    let rest : kept_number (length xs + n) (xs ++ ys) ≡ kept_number (length xs) xs + kept_number n ys = kept_behind xs ys n in
    rw e (omega arith)

kept_true : (n m : ℕ) → n ≤ m → kept_number n (replicate m true) ≡ n
kept_true zero m h = refl
kept_true (suc n) zero h = absurd (omega arith)
kept_true (suc n) (suc m) h = let rest : kept_number n (replicate m true) ≡ n = kept_true n m (omega arith) in omega arith

kept_false : (n m : ℕ) → kept_number n (replicate m false) ≡ 0
kept_false zero m = refl
kept_false (suc n) zero = refl
kept_false (suc n) (suc m) = let rest : kept_number n (replicate m false) ≡ 0 = kept_false n m in omega arith

-- a member that is kept counts
kept_counts : (n : ℕ) (kept : List Bool) → get_or kept n false ≡ true → 1 ≤ kept_number (suc n) kept
kept_counts n [] is = absurd cc
kept_counts zero (true ∷ kept) is = omega arith
kept_counts zero (false ∷ kept) is = absurd cc
kept_counts (suc n) (k ∷ kept) is = let rest : 1 ≤ kept_number (suc n) kept = kept_counts n kept is in omega arith

pub kept_few : (n : ℕ) (kept : List Bool) → kept_number n kept ≤ n
kept_few zero kept = omega arith
kept_few (suc n) [] = omega arith
kept_few (suc n) (true ∷ kept) = let rest : kept_number n kept ≤ n = kept_few n kept in omega arith
kept_few (suc n) (false ∷ kept) = let rest : kept_number n kept ≤ n = kept_few n kept in omega arith

-- ---- the new number of a member, or 0

module _ (kept : List Bool) (hint : ℕ) where
  new_number_kept : get_or kept (hint - 1) false ≡ true → new_number kept hint ≡ kept_number hint kept
  new_number_kept is = ap (λ (b : Bool). if b then kept_number hint kept else 0) is

  new_number_none : get_or kept (hint - 1) false ≡ false → new_number kept hint ≡ 0
  new_number_none is = ap (λ (b : Bool). if b then kept_number hint kept else 0) is

  pub is_kept : 1 ≤ hint → new_number kept hint ≢ 0 → get_or kept (hint - 1) false ≡ true
  is_kept from_one some =
      elim (cases_Bool (get_or kept (hint - 1) false)) [
        | inl t ↦ t
        | inr f ↦ absurd (some (new_number_none f))
      ]

  pub is_number : 1 ≤ hint → new_number kept hint ≢ 0 → new_number kept hint ≡ kept_number hint kept
  is_number from_one some = new_number_kept (is_kept from_one some)

  pub is_none : 1 ≤ hint → new_number kept hint ≡ 0 → get_or kept (hint - 1) false ≡ false
  is_none from_one none =
      elim (cases_Bool (get_or kept (hint - 1) false)) [
        | inr f ↦ f
        | inl t ↦
            let e : suc (hint - 1) ≡ hint = omega arith in
            let some : 1 ≤ kept_number hint kept = subst (λ (n : ℕ). 1 ≤ kept_number n kept) e (kept_counts (hint - 1) kept t) in
            let same : new_number kept hint ≡ kept_number hint kept = new_number_kept t in
            absurd (omega arith)
      ]

-- ---- clauses, local clauses, pool steps, own steps

module _ (clauses local pool : ℕ) where
  long_two : length (replicate clauses true ++ replicate local false) ≡ clauses + local
  long_two = omega (arith, length-append (replicate clauses true) (replicate local false), length-replicate clauses true, length-replicate local false)

  pub long_given : length (not_local clauses local pool) ≡ clauses + local + pool
  long_given = omega (arith, long_two, length-append (replicate clauses true ++ replicate local false) (replicate pool true), length-replicate pool true)

  kept_two : kept_number (clauses + local) (replicate clauses true ++ replicate local false) ≡ clauses
  kept_two =
      let e : clauses + local ≡ length (replicate clauses true) + local = omega (arith, length-replicate clauses true) in
      let behind = kept_behind (replicate clauses true) (replicate local false) local in
      let first : kept_number (length (replicate clauses true)) (replicate clauses true) ≡ clauses = subst (λ (n : ℕ). kept_number n (replicate clauses true) ≡ n) (sym (length-replicate clauses true)) (kept_true clauses clauses (omega arith)) ∙ length-replicate clauses true in
      let none : kept_number local (replicate local false) ≡ 0 = kept_false local local in
      subst (λ (n : ℕ). kept_number n (replicate clauses true ++ replicate local false) ≡ clauses) (sym e) (omega arith)

  -- how many of the members up to a pool step are kept
  kept_pool : (n : ℕ) → n ≤ pool → kept_number (clauses + local + n) (not_local clauses local pool) ≡ clauses + n
  kept_pool n h =
      let e : clauses + local + n ≡ length (replicate clauses true ++ replicate local false) + n = omega (arith, long_two) in
      let behind = kept_behind (replicate clauses true ++ replicate local false) (replicate pool true) n in
      let two : kept_number (length (replicate clauses true ++ replicate local false)) (replicate clauses true ++ replicate local false) ≡ clauses =
      subst (λ (m : ℕ). kept_number m (replicate clauses true ++ replicate local false) ≡ clauses) (sym long_two) kept_two in
      let last : kept_number n (replicate pool true) ≡ n = kept_true n pool h in
      subst (λ (m : ℕ). kept_number m (not_local clauses local pool) ≡ clauses + n) (sym e) (omega arith)

  module _ (marks : List Bool) where
    -- a hint that names a clause
    pub number_of_clause : (hint : ℕ) → 1 ≤ hint → hint ≤ clauses → new_number (not_local clauses local pool ++ marks) hint ≡ hint
    number_of_clause hint from_one small =
        let at : get_or (not_local clauses local pool ++ marks) (hint - 1) false ≡ true =
        get_or_append_left (not_local clauses local pool) marks false (hint - 1) (omega (arith, long_given)) ∙
        (get_or_append_left (replicate clauses true ++ replicate local false) (replicate pool true) false (hint - 1) (omega (arith, long_two)) ∙
        (get_or_append_left (replicate clauses true) (replicate local false) false (hint - 1) (omega (arith, length-replicate clauses true)) ∙
        get_or-replicate clauses (hint - 1) true false (omega arith))) in
        let count : kept_number hint (not_local clauses local pool ++ marks) ≡ hint =
        kept_front hint (not_local clauses local pool) marks (omega (arith, long_given)) ∙
        (kept_front hint (replicate clauses true ++ replicate local false) (replicate pool true) (omega (arith, long_two)) ∙
        (kept_front hint (replicate clauses true) (replicate local false) (omega (arith, length-replicate clauses true)) ∙ kept_true hint clauses small)) in
        new_number_kept (not_local clauses local pool ++ marks) hint at ∙ count

    -- one that names a local clause
    pub number_of_local : (hint : ℕ) → clauses < hint → hint ≤ clauses + local → new_number (not_local clauses local pool ++ marks) hint ≡ 0
    number_of_local hint above small =
        let n : ℕ = hint - 1 - clauses in
        let e : hint - 1 ≡ length (replicate clauses true) + n = omega (arith, length-replicate clauses true) in
        let at : get_or (not_local clauses local pool ++ marks) (hint - 1) false ≡ false =
        get_or_append_left (not_local clauses local pool) marks false (hint - 1) (omega (arith, long_given)) ∙
        (get_or_append_left (replicate clauses true ++ replicate local false) (replicate pool true) false (hint - 1) (omega (arith, long_two)) ∙
        (ap (λ (k : ℕ). get_or (replicate clauses true ++ replicate local false) k false) e ∙
        (get_or-append-add (replicate clauses true) (replicate local false) n false ∙ get_or-replicate local n false false (omega arith)))) in
        new_number_none (not_local clauses local pool ++ marks) hint at

    -- one that names a pool step
    pub number_of_pool : (hint : ℕ) → clauses + local < hint → hint ≤ clauses + local + pool → new_number (not_local clauses local pool ++ marks) hint ≡ hint - local
    number_of_pool hint above small =
        let n : ℕ = hint - 1 - (clauses + local) in
        let e : hint - 1 ≡ length (replicate clauses true ++ replicate local false) + n = omega (arith, long_two) in
        let f : clauses + local + (n + 1) ≡ hint = omega arith in
        let at : get_or (not_local clauses local pool ++ marks) (hint - 1) false ≡ true =
        get_or_append_left (not_local clauses local pool) marks false (hint - 1) (omega (arith, long_given)) ∙
        (ap (λ (k : ℕ). get_or (not_local clauses local pool) k false) e ∙
        (get_or-append-add (replicate clauses true ++ replicate local false) (replicate pool true) n false ∙ get_or-replicate pool n true false (omega arith))) in
        let count : kept_number hint (not_local clauses local pool) ≡ clauses + (n + 1) = subst (λ (m : ℕ). kept_number m (not_local clauses local pool) ≡ clauses + (n + 1)) f (kept_pool (n + 1) (omega arith)) in
        let whole : kept_number hint (not_local clauses local pool ++ marks) ≡ hint - local = kept_front hint (not_local clauses local pool) marks (omega (arith, long_given)) ∙ (count ∙ omega arith) in
        new_number_kept (not_local clauses local pool ++ marks) hint at ∙ whole

    kept_own : (n : ℕ) → kept_number (clauses + local + pool + n) (not_local clauses local pool ++ marks) ≡ clauses + pool + kept_number n marks
    kept_own n =
        let e : clauses + local + pool + n ≡ length (not_local clauses local pool) + n = omega (arith, long_given) in
        let behind = kept_behind (not_local clauses local pool) marks n in
        let given : kept_number (length (not_local clauses local pool)) (not_local clauses local pool) ≡ clauses + pool =
        subst (λ (m : ℕ). kept_number m (not_local clauses local pool) ≡ clauses + pool) (sym long_given) (kept_pool pool (omega arith)) in
        subst (λ (m : ℕ). kept_number m (not_local clauses local pool ++ marks) ≡ clauses + pool + kept_number n marks) (sym e) (omega arith)

    at_own : (k : ℕ) → get_or (not_local clauses local pool ++ marks) (clauses + local + pool + k) false ≡ get_or marks k false
    at_own k =
        let e : clauses + local + pool + k ≡ length (not_local clauses local pool) + k = omega (arith, long_given) in
        ap (λ (m : ℕ). get_or (not_local clauses local pool ++ marks) m false) e ∙ get_or-append-add (not_local clauses local pool) marks k false

  mark_at : (own : List ℕ) (k : ℕ) → k < length own → get_or (marks_of own) k false ≡ not (get_or own k 0 == 0)
  mark_at own k h = get_or-map (λ (n : ℕ). not (n == 0)) own k 0 false h

  -- one that names an own step
  pub number_of_own : (own : List ℕ) → HasNewNumbers (clauses + pool) own → (hint : ℕ) → clauses + local + pool < hint → new_number (not_local clauses local pool ++ marks_of own) hint ≡ get_or own (hint - clauses - local - pool - 1) 0
  number_of_own own table hint above =
      let k : ℕ = hint - clauses - local - pool - 1 in
      let kept : List Bool = not_local clauses local pool ++ marks_of own in
      let e : hint - 1 ≡ clauses + local + pool + k = omega arith in
      let f : clauses + local + pool + suc k ≡ hint = omega arith in
      let at : get_or kept (hint - 1) false ≡ get_or (marks_of own) k false = ap (λ (m : ℕ). get_or kept m false) e ∙ at_own (marks_of own) k in
      elim (cases_lt k (length own)) [
        | inr past ↦
            new_number_none kept hint (at ∙ get_or_past (marks_of own) k false (omega (arith, length-map own (λ (n : ℕ). not (n == 0))))) ∙ sym (get_or_past own k 0 past)
        | inl within ↦
            elim (cases_Bool (get_or own k 0 == 0)) [
              | inl t ↦ new_number_none kept hint (at ∙ (mark_at own k within ∙ ap not t)) ∙ sym (eqb-true (get_or own k 0) 0 t)
              | inr f' ↦
                  let some : get_or own k 0 ≢ 0 = eqb-false (get_or own k 0) 0 f' in
                  let count : kept_number hint kept ≡ clauses + pool + kept_number (suc k) (marks_of own) = subst (λ (m : ℕ). kept_number m kept ≡ clauses + pool + kept_number (suc k) (marks_of own)) f (kept_own (marks_of own) (suc k)) in
                  new_number_kept kept hint (at ∙ (mark_at own k within ∙ ap not f')) ∙ (count ∙ sym (table k within some))
            ]
      ]

-- ---- one more own step

marks_more : (own : List ℕ) (x : ℕ) → marks_of (own ++ x ∷ []) ≡ marks_of own ++ not (x == 0) ∷ []
marks_more own x = map-append (λ (n : ℕ). not (n == 0)) own (x ∷ [])

module _ (own : List ℕ) (x : ℕ) where
  long_marks : length (marks_of own) ≡ length own
  long_marks = length-map own (λ (n : ℕ). not (n == 0))

  kept_same : (k : ℕ) → k ≤ length own → kept_number k (marks_of (own ++ x ∷ [])) ≡ kept_number k (marks_of own)
  kept_same k h = ap (kept_number k) (marks_more own x) ∙ kept_front k (marks_of own) (not (x == 0) ∷ []) (omega (arith, long_marks))

  kept_last : (b : Bool) → not (x == 0) ≡ b → kept_number (length own + 1) (marks_of (own ++ x ∷ [])) ≡ kept_number (length own) (marks_of own) + kept_number 1 (b ∷ [])
  kept_last b is =
      let e : length own + 1 ≡ length (marks_of own) + 1 = omega (arith, long_marks) in
      ap (kept_number (length own + 1)) (marks_more own x ∙ ap (λ (c : Bool). marks_of own ++ c ∷ []) is) ∙
      (ap (λ (n : ℕ). kept_number n (marks_of own ++ b ∷ [])) e ∙ (kept_behind (marks_of own) (b ∷ []) 1 ∙ ap (λ (n : ℕ). kept_number n (marks_of own) + kept_number 1 (b ∷ [])) long_marks))

  table_more : (before last : ℕ) (b : Bool) → not (x == 0) ≡ b → (new : ℕ) → IsTable before last own → new ≡ last + kept_number 1 (b ∷ []) → (x ≢ 0 → x ≡ new) → IsTable before new (own ++ x ∷ [])
  table_more before last b is new was grows value =
      let long : length (own ++ x ∷ []) ≡ length own + 1 = length-append own (x ∷ []) in
      let total : new ≡ before + kept_number (length own + 1) (marks_of (own ++ x ∷ [])) = omega (arith, was.last_is, kept_last b is) in
      record {
        each = λ k h some. elim (cases_lt k (length own)) [
          | inl lt ↦
              let there : get_or (own ++ x ∷ []) k 0 ≡ get_or own k 0 = get_or_append_left own (x ∷ []) 0 k lt in
              let same : kept_number (suc k) (marks_of (own ++ x ∷ [])) ≡ kept_number (suc k) (marks_of own) = kept_same (suc k) (omega arith) in
              there ∙ (was.each k lt (λ none. some (there ∙ none)) ∙ ap (λ (n : ℕ). before + n) (sym same))
          | inr ge ↦
              let here : k ≡ length own + 0 = omega arith in
              let there : get_or (own ++ x ∷ []) k 0 ≡ x = ap (λ (n : ℕ). get_or (own ++ x ∷ []) n 0) here ∙ get_or-append-add own (x ∷ []) 0 0 in
              let next : length own + 1 ≡ suc k = omega arith in
              there ∙ (value (λ none. some (there ∙ none)) ∙ (total ∙ ap (λ (n : ℕ). before + kept_number n (marks_of (own ++ x ∷ []))) next))
        ];
        last_is = total ∙ ap (λ (n : ℕ). before + kept_number n (marks_of (own ++ x ∷ []))) (sym long);
      }

not_zero : (n : ℕ) → not (n + 1 == 0) ≡ true
not_zero n = elim (cases_Bool (n + 1 == 0)) [
  | inl t ↦ let e : n + 1 ≡ 0 = eqb-true (n + 1) 0 t in absurd (omega arith)
  | inr f ↦ ap not f
]

pub table_kept : (own : List ℕ) (before last : ℕ) → IsTable before last own → IsTable before (last + 1) (own ++ (last + 1) ∷ [])
table_kept own before last was = table_more own (last + 1) before last true (not_zero last) (last + 1) was refl (λ some. refl)

pub table_left_out : (own : List ℕ) (before last : ℕ) → IsTable before last own → IsTable before last (own ++ 0 ∷ [])
table_left_out own before last was = table_more own 0 before last false refl last was (omega arith) (λ some. absurd (some refl))

-- ---- room for one more

module _ (clauses local pool : ℕ) (own : List ℕ) where
  pub long_all : length (not_local clauses local pool ++ marks_of own) ≡ clauses + local + pool + length own
  long_all = omega (arith, long_given clauses local pool, length-append (not_local clauses local pool) (marks_of own), length-map own (λ (n : ℕ). not (n == 0)))

  pub last_few : (last : ℕ) → IsTable (clauses + pool) last own → last ≤ clauses + local + pool + length own
  last_few last table = omega (arith, table.last_is, kept_few (length own) (marks_of own))
