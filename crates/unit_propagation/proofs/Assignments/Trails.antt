-- Lemmas on trails.
use Rattle.std.proofs.Common.{◌≡◌, ◌<◌, ◌≤◌, ◌+◌, ◌-◌, ◌++◌, [], ◌∷◌, ◌⊎◌, ℕ, zero, suc, false, Option, Some, None, List, length, get_or, take, All, arith, sym, ◌∙◌, ap, inl, inr, refl, subst, append_assoc, length-append, length-take}
use Rattle.std.proofs.lemmas.Bool.{cases_lt}
use Rattle.std.proofs.lemmas.List.{get_or_default, take_more, take_all, take-append-le, take-take, get_or_append_left, get_or-take}
use Rattle.std.proofs.Math.Seq.{get_or-append_seam}
use Rattle.std.proofs.lemmas.List.Elements.{All-push, All-append}
use Rattle.std.proofs.lemmas.Option.{slice_get-get_or, slice_get_cases}
use Rattle.std.specs.List.{Contains, slice_get}
use Rattle.std.specs.Option.{MatchOption, option_map_or, IsSome}
use Rattle.cnf_core.specs.declared.literal.Lit.{Lit}
use Rattle.cnf_core.specs.Literal.{negation_of}
use Rattle.refutation_check.specs.Chain.{Names, Forces}
use Rattle.refutation_check.specs.Assumed.{IsOpen}
use Rattle.refutation_check.proofs.Sights.{lit_equal, lit_cases, not_not}
use Rattle.unit_propagation.specs.declared.assignment_trail.assigned.Assigned.{Assigned}
use Rattle.unit_propagation.specs.Assignments.Cutting.{AreFresh}
use Rattle.unit_propagation.specs.Assignments.Trail.{ForcesMore, falses_of, level_of, IsPlaced, IsTrail}

pub neg_neg : (l : Lit) → negation_of (negation_of l) ≡ l
neg_neg l = lit_equal (negation_of (negation_of l)) l refl (not_not l.positive)

pub All-front : {X : Type 0} → (P : X → Type 0) (xs ys : List X) → All P (xs ++ ys) → All P xs
All-front P xs ys all k d h = let p = all k d (omega (arith, length-append xs ys)) in rw (get_or_append_left xs ys d k h) at p

pub falses_of-push : (xs : List Assigned) (a : Assigned) → falses_of (xs ++ a ∷ []) ≡ falses_of xs ++ negation_of a.lit ∷ []
falses_of-push [] a = refl
falses_of-push (x ∷ xs) a = ap (λ (fs : List Lit). negation_of x.lit ∷ fs) (falses_of-push xs a)

pub level_of-push : (xs : List Assigned) (a : Assigned) → level_of (xs ++ a ∷ []) ≡ a.level
level_of-push xs a =
    let n : length (xs ++ a ∷ []) - 1 ≡ length xs = omega (arith, length-append xs (a ∷ [])) in
    let in' : length xs < length (xs ++ a ∷ []) = omega (arith, length-append xs (a ∷ [])) in
    let e : slice_get (xs ++ a ∷ []) (length (xs ++ a ∷ []) - 1) ≡ Some a = ap (slice_get (xs ++ a ∷ [])) n ∙ (slice_get-get_or (xs ++ a ∷ []) (length xs) a in' ∙ ap Some (get_or-append_seam xs a [] a)) in
    ap (λ (o : Option Assigned). option_map_or (λ (b : Assigned). b.level) o 0) e

pub level_of_take : (xs : List Assigned) (i : ℕ) (d : Assigned) → i < length xs → level_of (take (i + 1) xs) ≡ (get_or xs i d).level
level_of_take xs i d h = ap level_of (take_more xs i d h) ∙ level_of-push (take i xs) (get_or xs i d)

-- the newest of the first n literals has their level
pub level_last : (xs : List Assigned) (n : ℕ) (d : Assigned) → 0 < n → n ≤ length xs → level_of (take n xs) ≡ (get_or xs (n - 1) d).level
level_last xs n d some within =
    let back : (n - 1) + 1 ≡ n = omega arith in
    ap (λ (k : ℕ). level_of (take k xs)) (sym back) ∙ level_of_take xs (n - 1) d (omega arith)

-- what is so of each literal and the older ones is so with one more
pub each_push : (P : List Assigned → Assigned → Type 0) (xs : List Assigned) (a : Assigned) → ((i : ℕ) (d : Assigned) → i < length xs → P (take i xs) (get_or xs i d)) → P xs a →
    (i : ℕ) (d : Assigned) → i < length (xs ++ a ∷ []) → P (take i (xs ++ a ∷ [])) (get_or (xs ++ a ∷ []) i d)
each_push P xs a each here i d h =
    elim (cases_lt i (length xs)) [
      | inl lt ↦ rw (take-append-le i xs (a ∷ []) (omega arith), get_or_append_left xs (a ∷ []) d i lt) (each i d lt)
      | inr ge ↦
          let is : i ≡ length xs = omega (arith, length-append xs (a ∷ [])) in
          let front : take i (xs ++ a ∷ []) ≡ xs = take-append-le i xs (a ∷ []) (omega arith) ∙ take_all i xs ge in
          let at : get_or (xs ++ a ∷ []) i d ≡ a = ap (λ (k : ℕ). get_or (xs ++ a ∷ []) k d) is ∙ get_or-append_seam xs a [] d in
          rw (front, at) here
    ]

-- and of the oldest so many
pub each_cut : (P : List Assigned → Assigned → Type 0) (xs : List Assigned) (count : ℕ) → ((i : ℕ) (d : Assigned) → i < length xs → P (take i xs) (get_or xs i d)) →
    (i : ℕ) (d : Assigned) → i < length (take count xs) → P (take i (take count xs)) (get_or (take count xs) i d)
each_cut P xs count each i d h =
    let short = length-take count xs in
    let here : i < count = omega (arith, h, short) in
    rw (get_or-take count xs i d here, take-take i count xs (omega arith)) (each i d (omega (arith, h, short)))

pub IsTrail-push : (clauses : List (List Lit)) (xs : List Assigned) (a : Assigned) → IsTrail clauses xs → IsPlaced clauses xs a → IsTrail clauses (xs ++ a ∷ [])
IsTrail-push clauses xs a trail placed = each_push (IsPlaced clauses) xs a trail placed

pub IsTrail-cut : (clauses : List (List Lit)) (xs : List Assigned) (count : ℕ) → IsTrail clauses xs → IsTrail clauses (take count xs)
IsTrail-cut clauses xs count trail = each_cut (IsPlaced clauses) xs count trail

pub AreFresh-push : (xs : List Assigned) (a : Assigned) → AreFresh xs → IsOpen (falses_of xs) a.lit → AreFresh (xs ++ a ∷ [])
AreFresh-push xs a fresh is_open = each_push (λ before b. IsOpen (falses_of before) b.lit) xs a fresh is_open

pub AreFresh-cut : (xs : List Assigned) (count : ℕ) → AreFresh xs → AreFresh (take count xs)
AreFresh-cut xs count fresh = each_cut (λ before b. IsOpen (falses_of before) b.lit) xs count fresh

-- a literal stays on the level or is a decision, on the next one
level_cases : (clauses : List (List Lit)) (before : List Assigned) (r : Option ℕ) (l : Lit) (level : ℕ) →
    MatchOption r (IsOpen (falses_of before) l × (level ≡ level_of before + 1)) (λ n. Forces clauses (falses_of before) n l × (level ≡ level_of before)) → (level ≡ level_of before) ⊎ ((level ≡ level_of before + 1) × (r ≡ None))
level_cases clauses before None l level placed = inr (placed.1, refl)
level_cases clauses before (Some n) l level placed = inl placed.1

pub placed_level : (clauses : List (List Lit)) (before : List Assigned) (a : Assigned) → IsPlaced clauses before a → (a.level ≡ level_of before) ⊎ ((a.level ≡ level_of before + 1) × (a.reason ≡ None))
placed_level clauses before a placed = level_cases clauses before a.reason a.lit a.level placed

open_cases : (clauses : List (List Lit)) (before : List Assigned) (r : Option ℕ) (l : Lit) (level : ℕ) →
    MatchOption r (IsOpen (falses_of before) l × (level ≡ level_of before + 1)) (λ n. Forces clauses (falses_of before) n l × (level ≡ level_of before)) → IsOpen (falses_of before) l
open_cases clauses before None l level placed = placed.0
open_cases clauses before (Some n) l level placed = (placed.0.unit.not_false, placed.0.unit.not_true)

pub placed_open : (clauses : List (List Lit)) (before : List Assigned) (a : Assigned) → IsPlaced clauses before a → IsOpen (falses_of before) a.lit
placed_open clauses before a placed = open_cases clauses before a.reason a.lit a.level placed

pub level_low : (clauses : List (List Lit)) (xs : List Assigned) → IsTrail clauses xs → (i : ℕ) → i ≤ length xs → level_of (take i xs) ≤ i
level_low clauses xs trail zero h = omega arith
level_low clauses xs trail (suc i) h =
    let d : Assigned = record { lit = record { var = 0; positive = false }; level = 0; reason = None } in
    let a : Assigned = get_or xs i d in
    let next : take (i + 1) xs ≡ take i xs ++ a ∷ [] = take_more xs i d (omega arith) in
    let n : suc i ≡ i + 1 = omega arith in
    let level : level_of (take (suc i) xs) ≡ a.level = ap (λ (k : ℕ). level_of (take k xs)) n ∙ (ap level_of next ∙ level_of-push (take i xs) a) in
    let low : level_of (take i xs) ≤ i = level_low clauses xs trail i (omega arith) in
    elim (placed_level clauses (take i xs) a (trail i d (omega arith))) [ inl same ↦ omega arith | inr more ↦ omega (arith, more.0) ]

pub level_low_all : (clauses : List (List Lit)) (xs : List Assigned) → IsTrail clauses xs → level_of xs ≤ length xs
level_low_all clauses xs trail = let low : level_of (take (length xs) xs) ≤ length xs = level_low clauses xs trail (length xs) (omega arith) in rw (take_all (length xs) xs (omega arith)) at low

pub forces_more_push : (old new : List Assigned) (a : Assigned) → ForcesMore old new → IsSome a.reason → ForcesMore old (new ++ a ∷ [])
forces_more_push old new a was some =
    record {
      more = was.more ++ a ∷ [];
      added = ap (λ (xs : List Assigned). xs ++ a ∷ []) was.added ∙ append_assoc old was.more (a ∷ []);
      forced = All-push (λ (a : Assigned). IsSome a.reason) was.more a was.forced some;
    }

pub forces_trans : (a b c : List Assigned) → ForcesMore a b → ForcesMore b c → ForcesMore a c
forces_trans a b c f g =
    record {
      more = f.more ++ g.more;
      added = g.added ∙ (ap (λ (xs : List Assigned). xs ++ g.more) f.added ∙ append_assoc a f.more g.more);
      forced = All-append (λ x. IsSome x.reason) f.more g.more f.forced g.forced;
    }

Names-more : (clauses : List (List Lit)) (c : List Lit) (n : ℕ) (d : List Lit) → Names clauses n d → Names (clauses ++ c ∷ []) n d
Names-more clauses c n d named =
    elim (slice_get_cases clauses (n - 1)).1 [
      | inl (x, in', is, there) ↦
          let same : Some x ≡ Some d = sym is ∙ named.1 in
          let y : x ≡ d = cc in
          (named.0, slice_get-get_or (clauses ++ c ∷ []) (n - 1) d (omega (arith, length-append clauses (c ∷ []))) ∙ ap Some (get_or_append_left clauses (c ∷ []) d (n - 1) in' ∙ (get_or_default clauses (n - 1) d x in' ∙ (there ∙ y))))
      | inr (past, is) ↦ let e : None ≡ Some d = sym is ∙ named.1 in absurd cc
    ]

placed_more : (clauses : List (List Lit)) (c : List Lit) (before : List Assigned) (r : Option ℕ) (l : Lit) (level : ℕ) →
    MatchOption r (IsOpen (falses_of before) l × (level ≡ level_of before + 1)) (λ n. Forces clauses (falses_of before) n l × (level ≡ level_of before)) →
    MatchOption r (IsOpen (falses_of before) l × (level ≡ level_of before + 1)) (λ n. Forces (clauses ++ c ∷ []) (falses_of before) n l × (level ≡ level_of before))
placed_more clauses c before None l level placed = placed
placed_more clauses c before (Some n) l level placed = (record { clause = placed.0.clause; named = Names-more clauses c n placed.0.clause placed.0.named; unit = placed.0.unit }, placed.1)

pub IsTrail-clause : (clauses : List (List Lit)) (c : List Lit) (xs : List Assigned) → IsTrail clauses xs → IsTrail (clauses ++ c ∷ []) xs
IsTrail-clause clauses c xs trail i d h = placed_more clauses c (take i xs) (get_or xs i d).reason (get_or xs i d).lit (get_or xs i d).level (trail i d h)

-- a literal of the trail makes its opposite false
pub in_falses : (xs : List Assigned) (k : ℕ) (d : Assigned) → k < length xs → Contains (falses_of xs) (negation_of (get_or xs k d).lit)
in_falses [] k d h = absurd (omega arith)
in_falses (x ∷ xs) zero d h = (0, omega arith, refl)
in_falses (x ∷ xs) (suc k) d h = let r = in_falses xs k d (omega arith) in (suc r.0, omega (arith, r.1), r.2)

-- a literal is false where one of the trail is its opposite
pub from_falses : (xs : List Assigned) (l : Lit) → Contains (falses_of xs) l → (k : ℕ) × (k < length xs) × ((d : Assigned) → negation_of (get_or xs k d).lit ≡ l)
from_falses [] l (k, h, e) = absurd (omega arith)
from_falses (x ∷ xs) l (zero, h, e) = (0, omega arith, λ d. e)
from_falses (x ∷ xs) l (suc k, h, e) = let r = from_falses xs l (k, omega arith, e) in (suc r.0, omega (arith, r.1), r.2)

pub false_from : (xs : List Assigned) (l : Lit) (i : ℕ) → i < length xs → ((d : Assigned) → negation_of (get_or xs i d).lit ≡ l) → Contains (falses_of xs) l
false_from xs l i h is = let d : Assigned = record { lit = l; level = 0; reason = None } in subst (Contains (falses_of xs)) (is d) (in_falses xs i d h)

pub true_false : (xs : List Assigned) (l : Lit) (i : ℕ) → i < length xs → ((d : Assigned) → (get_or xs i d).lit ≡ l) → Contains (falses_of xs) (negation_of l)
true_false xs l i h is = false_from xs (negation_of l) i h (λ d. ap negation_of (is d))

-- what is false after the first n is what those make false
pub in_front : (xs : List Assigned) (k n : ℕ) (d : Assigned) → k < n → k < length xs → Contains (falses_of (take n xs)) (negation_of (get_or xs k d).lit)
in_front xs k n d below in' =
    subst (λ (a : Assigned). Contains (falses_of (take n xs)) (negation_of a.lit)) (get_or-take n xs k d below) (in_falses (take n xs) k d (omega (arith, length-take n xs)))

pub from_front : (xs : List Assigned) (n : ℕ) (l : Lit) → Contains (falses_of (take n xs)) l → (k : ℕ) × (k < n) × (k < length xs) × ((d : Assigned) → negation_of (get_or xs k d).lit ≡ l)
from_front xs n l c =
    let r = from_falses (take n xs) l c in
    let below : r.0 < n = omega (arith, r.1, length-take n xs) in
    (r.0, below, omega (arith, r.1, length-take n xs), λ d. ap (λ (a : Assigned). negation_of a.lit) (sym (get_or-take n xs r.0 d below)) ∙ r.2 d)

pub front_more : (xs : List Assigned) (n : ℕ) (l : Lit) → Contains (falses_of (take n xs)) l → Contains (falses_of (take (n + 1) xs)) l
front_more xs n l c =
    let r = from_front xs n l c in
    let d : Assigned = record { lit = l; level = 0; reason = None } in
    subst (Contains (falses_of (take (n + 1) xs))) (r.3 d) (in_front xs r.0 (n + 1) d (omega (arith, r.1)) r.2)

module _ (clauses : List (List Lit)) (xs : List Assigned) (trail : IsTrail clauses xs) where
  -- the variables of a trail differ
  pub vars_differ : (j k : ℕ) (d e : Assigned) → j < k → k < length xs → (get_or xs j d).lit.var ≡ (get_or xs k e).lit.var → ⊥
  vars_differ j k d e less in' same =
      let is_open : IsOpen (falses_of (take k xs)) (get_or xs k e).lit = placed_open clauses (take k xs) (get_or xs k e) (trail k e in') in
      let there : Contains (falses_of (take k xs)) (negation_of (get_or xs j d).lit) = in_front xs j k d less (omega arith) in
      elim (lit_cases (get_or xs j d).lit (get_or xs k e).lit same) [
        | inl one ↦ is_open.1 (subst (λ (l : Lit). Contains (falses_of (take k xs)) (negation_of l)) one there)
        | inr opposite ↦ is_open.0 (subst (Contains (falses_of (take k xs))) (ap negation_of opposite ∙ neg_neg (get_or xs k e).lit) there)
      ]

  -- levels do not fall
  pub level_before : (n : ℕ) (j : ℕ) (d : Assigned) → j < n → n ≤ length xs → (get_or xs j d).level ≤ level_of (take n xs)
  level_before zero j d less h = absurd (omega arith)
  level_before (suc m) j d less h =
      let top : level_of (take (m + 1) xs) ≡ (get_or xs m d).level = level_of_take xs m d (omega arith) in
      let one : suc m ≡ m + 1 = omega arith in
      let top' : level_of (take (suc m) xs) ≡ (get_or xs m d).level = ap (λ (k : ℕ). level_of (take k xs)) one ∙ top in
      elim (cases_lt j m) [
        | inl lt ↦
            let low : (get_or xs j d).level ≤ level_of (take m xs) = level_before m j d lt (omega arith) in
            elim (placed_level clauses (take m xs) (get_or xs m d) (trail m d (omega arith))) [ inl same ↦ omega arith | inr more ↦ omega (arith, more.0) ]
        | inr ge ↦ let is : j ≡ m = omega arith in let e : (get_or xs j d).level ≡ (get_or xs m d).level = ap (λ (k : ℕ). (get_or xs k d).level) is in omega arith
      ]

  placed_at_least : (n : ℕ) (d : Assigned) → n < length xs → level_of (take n xs) ≤ (get_or xs n d).level
  placed_at_least n d h = elim (placed_level clauses (take n xs) (get_or xs n d) (trail n d h)) [ inl same ↦ omega arith | inr more ↦ omega (arith, more.0) ]

  pub level_rises : (j n : ℕ) (d : Assigned) → j ≤ n → n < length xs → (get_or xs j d).level ≤ (get_or xs n d).level
  level_rises j n d less h =
      elim (cases_lt j n) [
        | inl lt ↦ let a = level_before n j d lt (omega arith) in let b = placed_at_least n d h in omega (arith, a, b)
        | inr ge ↦ let is : j ≡ n = omega arith in let e : (get_or xs j d).level ≡ (get_or xs n d).level = ap (λ (k : ℕ). (get_or xs k d).level) is in omega arith
      ]
