-- What follows from what is assumed.
use Rattle.std.proofs.Common.{◌≡◌, ◌<◌, ◌≤◌, ◌+◌, ◌-◌, ◌++◌, [], ◌∷◌, ◌⊎◌, ℕ, zero, suc, Bool, true, false, not, Option, Some, None, List, length, get_or, take, All, arith, sym, ◌∙◌, ap, inl, inr, refl, subst, length-append}
use Rattle.std.proofs.lemmas.Bool.{cases_lt}
use Rattle.std.proofs.lemmas.List.{get_or_default, take_all, take_more, take-append-le, get_or_append_left, map-append}
use Rattle.std.proofs.Math.Seq.{get_or-append_right}
use Rattle.std.proofs.lemmas.List.Elements.{All-nil, All-cons, All-head, All-contains, Contains-append_left, Contains-push_cases}
use Rattle.std.specs.Prelude.{min}
use Rattle.std.specs.List.{Contains}
use Rattle.std.specs.Option.{IsSome, MatchOption}
use Rattle.cnf_core.specs.declared.literal.Lit.{Lit}
use Rattle.cnf_core.specs.Literal.{negation_of}
use Rattle.refutation_check.specs.Chain.{IsFalsified, IsUnit, Refutes, Forces}
use Rattle.refutation_check.specs.Assumed.{IsOpen}
use Rattle.refutation_check.proofs.Chains.{names_all}
use Rattle.unit_propagation.specs.declared.assignment_trail.assigned.Assigned.{Assigned}
use Rattle.unit_propagation.specs.Assignments.Trail.{IsTrail, ForcesMore, falses_of, level_of}
use Rattle.unit_propagation.proofs.Assignments.Trails.{each_push, each_cut, falses_of-push, level_before, level_of_take, placed_level, from_falses, false_from, from_front, vars_differ}
use Rattle.sat_trail.specs.Closed.{IsClosed}
use Rattle.sat_core.specs.Assuming.{AreTrue, IsAssumedFirst, IsClash}
use Rattle.sat_trail.proofs.Waiting.{contains_or_not}
use Rattle.sat_core.proofs.Descents.{forced_within}

-- what is so of each decision and the literals before it
abbrev pub EachDecision : (List Assigned → Assigned → Type 0) → List Assigned → Type 0
EachDecision P xs = (i : ℕ) (d : Assigned) → i < length xs → (get_or xs i d).reason ≡ None → P (take i xs) (get_or xs i d)

module _ (P : List Assigned → Assigned → Type 0) (xs : List Assigned) (was : EachDecision P xs) where
  -- what is forced is no decision
  pub decisions_forced : (ys : List Assigned) → ForcesMore xs ys → EachDecision P ys
  decisions_forced ys forces =
      subst (λ (zs : List Assigned). EachDecision P zs) (sym forces.added) (λ i d h decided.
      elim (cases_lt i (length xs)) [
        | inl lt ↦
            let front : take i (xs ++ forces.more) ≡ take i xs = take-append-le i xs forces.more (omega arith) in
            let at : get_or (xs ++ forces.more) i d ≡ get_or xs i d = get_or_append_left xs forces.more d i lt in
            rw (front, at) (was i d lt (ap (λ (a : Assigned). a.reason) (sym at) ∙ decided))
        | inr ge ↦
            let at : get_or (xs ++ forces.more) i d ≡ get_or forces.more (i - length xs) d = get_or-append_right xs forces.more i d ge in
            let some = forces.forced (i - length xs) d (omega (arith, length-append xs forces.more)) in
            absurd (some_not_none (get_or forces.more (i - length xs) d).reason some (ap (λ (a : Assigned). a.reason) (sym at) ∙ decided))
      ])
    where
      some_not_none : (o : Option ℕ) → IsSome o → o ≡ None → ⊥
      some_not_none None some none = cc
      some_not_none (Some n) some none = cc

  -- one more decision
  pub decisions_more : (a : Assigned) → P xs a → EachDecision P (xs ++ a ∷ [])
  decisions_more a here = each_push (λ before b. b.reason ≡ None → P before b) xs a was (λ _. here)

  -- fewer literals
  pub decisions_cut : (count : ℕ) → EachDecision P (take count xs)
  decisions_cut count = each_cut (λ before b. b.reason ≡ None → P before b) xs count was

-- what is false after the first literals is so in the end
pub front_false : (xs : List Assigned) (n : ℕ) (l : Lit) → Contains (falses_of (take n xs)) l → Contains (falses_of xs) l
front_false xs n l c = let r = from_front xs n l c in false_from xs l r.0 r.2 r.3

pub front_true : (xs : List Assigned) (n : ℕ) (assumed : List Lit) → AreTrue (falses_of (take n xs)) assumed → AreTrue (falses_of xs) assumed
front_true xs n assumed was k d h = front_false xs n _ (was k d h)

-- what is true stays so where more literals are
pub true_more : (xs ys : List Assigned) (assumed : List Lit) → AreTrue (falses_of xs) assumed → AreTrue (falses_of (xs ++ ys)) assumed
true_more xs ys assumed was k d h =
    let l : Lit = negation_of (get_or assumed k d) in
    subst (λ (fs : List Lit). Contains fs l) (sym (map-append (λ (a : Assigned). negation_of a.lit) xs ys)) (Contains-append_left (falses_of xs) (falses_of ys) l (was k d h))

pub true_forced : (xs ys : List Assigned) (assumed : List Lit) → ForcesMore xs ys → AreTrue (falses_of xs) assumed → AreTrue (falses_of ys) assumed
true_forced xs ys assumed forces was = subst (λ (zs : List Assigned). AreTrue (falses_of zs) assumed) (sym forces.added) (true_more xs forces.more assumed was)

one_of : (l other : Lit) → Contains (l ∷ []) other → other ≡ l
one_of l other (zero, h, e) = sym e
one_of l other (suc k, h, e) = absurd (omega arith)

module _ (falses : List Lit) (l : Lit) where
  abbrev IsQuiet : List Lit → Type 0
  IsQuiet c = (¬ IsFalsified (Contains falses) c) × ((u : Lit) → ¬ IsUnit (Contains falses) c u)

  quiet_first : IsClosed ((l ∷ []) ∷ []) falses → IsQuiet (l ∷ [])
  quiet_first closed = All-head IsQuiet (l ∷ []) [] closed

  pub unit_not_false : IsClosed ((l ∷ []) ∷ []) falses → Contains falses l → ⊥
  unit_not_false closed c = (quiet_first closed).0 (All-cons (Contains falses) l [] c (All-nil (Contains falses)))

  -- where a clause of one literal forces nothing, it is true
  pub unit_true : IsClosed ((l ∷ []) ∷ []) falses → Contains falses (negation_of l)
  unit_true closed =
      elim (contains_or_not falses (negation_of l)) [
        | inl is_true ↦ is_true
        | inr not_true ↦ absurd ((quiet_first closed).1 l (record {
          member = (0, omega arith, refl);
          not_false = unit_not_false closed;
          not_true = not_true;
          others = λ other c differ. absurd (differ (one_of l other c));
        }))
      ]

  pub unit_closed : Contains falses (negation_of l) → (Contains falses l → ⊥) → IsClosed ((l ∷ []) ∷ []) falses
  unit_closed is_true not_false =
      All-cons IsQuiet (l ∷ []) [] (
        (λ falsified. not_false (All-head (Contains falses) l [] falsified)),
        (λ u unit. unit.not_true (subst (λ (x : Lit). Contains falses (negation_of x)) (sym (one_of l u unit.member)) is_true)),
      ) (All-nil IsQuiet)

-- above a level there is a decision
pub decision_above : (clauses : List (List Lit)) (xs : List Assigned) → IsTrail clauses xs → (depth n : ℕ) → n ≤ length xs → depth < level_of (take n xs) → (i : ℕ) × (i < length xs) × ((d : Assigned) → (get_or xs i d).reason ≡ None) × ((d : Assigned) → depth < (get_or xs i d).level)
decision_above clauses xs trail depth zero h some = absurd (omega arith)
decision_above clauses xs trail depth (suc n) h some =
    let a : Assigned = record { lit = record { var = 0; positive = false }; level = 0; reason = None } in
    let one : suc n ≡ n + 1 = omega arith in
    let level : level_of (take (suc n) xs) ≡ (get_or xs n a).level = ap (λ (k : ℕ). level_of (take k xs)) one ∙ level_of_take xs n a (omega arith) in
    elim (placed_level clauses (take n xs) (get_or xs n a) (trail n a (omega arith))) [
      | inl same ↦ decision_above clauses xs trail depth n (omega arith) (omega (arith, level, same, some))
      | inr more ↦ (
        n,
        omega arith,
        λ d. ap (λ (b : Assigned). b.reason) (get_or_default xs n d a (omega arith)) ∙ more.1,
        λ d. let e : (get_or xs n d).level ≡ (get_or xs n a).level = ap (λ (b : Assigned). b.level) (get_or_default xs n d a (omega arith)) in omega (arith, e, level, some),
      )
    ]

module _ (xs : List Assigned) (assumed : List Lit) (depth : ℕ) (first : IsAssumedFirst assumed depth xs) where
  abbrev IsFirst : List Assigned → Assigned → Type 0
  IsFirst before a = ((a.level ≤ depth) × Contains assumed a.lit) ⊎ ((depth < a.level) × AreTrue (falses_of before) assumed)

  -- a further literal is decided where all that is assumed is true
  pub first_more : (a : Assigned) → AreTrue (falses_of xs) assumed → depth < a.level → IsAssumedFirst assumed depth (xs ++ a ∷ [])
  first_more a all above = decisions_more IsFirst xs first a (inr (above, all))

  pub first_forced : (ys : List Assigned) → ForcesMore xs ys → IsAssumedFirst assumed depth ys
  first_forced ys forces = decisions_forced IsFirst xs first ys forces

  pub first_cut : (count : ℕ) → IsAssumedFirst assumed depth (take count xs)
  first_cut count = decisions_cut IsFirst xs first count

module _ (clauses : List (List Lit)) (xs : List Assigned) (trail : IsTrail clauses xs) where
  pub below_top : (i : ℕ) (d : Assigned) → i < length xs → (get_or xs i d).level ≤ level_of xs
  below_top i d h =
      let up : (get_or xs i d).level ≤ level_of (take (length xs) xs) = level_before clauses xs trail (length xs) i d h (omega arith) in
      let same : level_of (take (length xs) xs) ≡ level_of xs = ap level_of (take_all (length xs) xs (omega arith)) in
      omega (arith, up, same)

  not_own : (b : Bool) → b ≡ not b → ⊥
  not_own true e = cc
  not_own false e = cc

  same_sign : (j k : ℕ) (d : Assigned) → j < length xs → k < length xs → (get_or xs j d).lit.var ≡ (get_or xs k d).lit.var → (get_or xs j d).lit ≡ (get_or xs k d).lit
  same_sign j k d in_j in_k same =
      elim (cases_lt j k) [
        | inl less ↦ absurd (vars_differ clauses xs trail j k d d less in_k same)
        | inr not_less ↦ elim (cases_lt k j) [
          | inl more ↦ absurd (vars_differ clauses xs trail k j d d more in_j (sym same))
          | inr not_more ↦ let is : j ≡ k = omega arith in ap (λ (i : ℕ). (get_or xs i d).lit) is
        ]
      ]

  -- no literal of a trail is false with its opposite
  pub consistent : (l : Lit) → Contains (falses_of xs) l → Contains (falses_of xs) (negation_of l) → ⊥
  consistent l here there =
      let d : Assigned = record { lit = l; level = 0; reason = None } in
      let r = from_falses xs l here in
      let s = from_falses xs (negation_of l) there in
      let var : (get_or xs r.0 d).lit.var ≡ (get_or xs s.0 d).lit.var = ap (λ (x : Lit). x.var) (r.2 d) ∙ sym (ap (λ (x : Lit). x.var) (s.2 d)) in
      let one : l ≡ negation_of l = sym (r.2 d) ∙ (ap negation_of (same_sign r.0 s.0 d r.1 s.1 var) ∙ s.2 d) in
      not_own l.positive (ap (λ (x : Lit). x.positive) one)

  module _ (assumed : List Lit) (depth : ℕ) (first : IsAssumedFirst assumed depth xs) where
    -- nothing but what is assumed was decided, up to this level
    pub assumed_up_to : level_of xs ≤ depth → (i : ℕ) (d : Assigned) → i < length xs → (get_or xs i d).reason ≡ None → Contains assumed (get_or xs i d).lit
    assumed_up_to low i d h is =
        elim (first i d h is) [
          | inl here ↦ here.1
          | inr above ↦ let up = below_top i d h in let high : depth < (get_or xs i d).level = above.0 in absurd (omega arith)
        ]

    -- nor where some assumed literal is not true
    pub assumed_while : (AreTrue (falses_of xs) assumed → ⊥) → (i : ℕ) (d : Assigned) → i < length xs → (get_or xs i d).reason ≡ None → Contains assumed (get_or xs i d).lit
    assumed_while some i d h is = elim (first i d h is) [ inl here ↦ here.1 | inr above ↦ absurd (some (front_true xs i assumed above.1)) ]

    -- one more assumed literal is decided
    pub assumed_more : (a : Assigned) → (AreTrue (falses_of xs) assumed → ⊥) → Contains assumed a.lit → a.level ≡ level_of xs + 1 → IsAssumedFirst assumed (level_of xs + 1) (xs ++ a ∷ [])
    assumed_more a some is level =
        decisions_more (λ before b. ((b.level ≤ level_of xs + 1) × Contains assumed b.lit) ⊎ ((level_of xs + 1 < b.level) × AreTrue (falses_of before) assumed)) xs
        (λ i d h decided. let up = below_top i d h in inl (omega arith, assumed_while some i d h decided)) a (inl (omega (arith, level), is))

    -- the level of the trail bounds the levels of its decisions
    pub first_lowered : IsAssumedFirst assumed (min depth (level_of xs)) xs
    first_lowered i d h decided =
        let up = below_top i d h in
        elim (first i d h decided) [
          | inl here ↦ let low : (get_or xs i d).level ≤ depth = here.0 in inl (omega arith, here.1)
          | inr above ↦ let high : depth < (get_or xs i d).level = above.0 in inr (omega arith, above.1)
        ]

  module _ (assumed : List Lit) (decided : (i : ℕ) (d : Assigned) → i < length xs → (get_or xs i d).reason ≡ None → Contains assumed (get_or xs i d).lit) (falses : List Lit) (closed : IsClosed clauses falses) (units : All (λ l. IsClosed ((l ∷ []) ∷ []) falses) assumed) where
    newest : (before : List Assigned) (r : Option ℕ) (l : Lit) (level : ℕ) → MatchOption r (IsOpen (falses_of before) l × (level ≡ level_of before + 1)) (λ n. Forces clauses (falses_of before) n l × (level ≡ level_of before)) →
        (r ≡ None → Contains assumed l) → ((k : Lit) → Contains (falses_of before) k → Contains falses k) → Contains falses (negation_of l)
    newest before None l level placed is within = unit_true falses l (All-contains (λ (l : Lit). IsClosed ((l ∷ []) ∷ []) falses) assumed l units (is refl))
    newest before (Some n) l level placed is within = forced_within clauses falses closed (falses_of before) n l within placed.0

    -- what is false on the trail is so wherever the clauses and the assumed literals force no more
    within_front : (n : ℕ) → n ≤ length xs → (k : Lit) → Contains (falses_of (take n xs)) k → Contains falses k
    within_front zero h k c = absurd (omega (arith, c.1))
    within_front (suc n) h k c =
        let d : Assigned = record { lit = k; level = 0; reason = None } in
        let a : Assigned = get_or xs n d in
        let one : suc n ≡ n + 1 = omega arith in
        let next : take (suc n) xs ≡ take n xs ++ a ∷ [] = ap (λ (i : ℕ). take i xs) one ∙ take_more xs n d (omega arith) in
        let parts : Contains (falses_of (take n xs) ++ negation_of a.lit ∷ []) k = subst (λ (fs : List Lit). Contains fs k) (ap falses_of next ∙ falses_of-push (take n xs) a) c in
        elim (Contains-push_cases (falses_of (take n xs)) (negation_of a.lit) k parts) [
          | inl old ↦ within_front n (omega arith) k old
          | inr is ↦ subst (Contains falses) is (newest (take n xs) a.reason a.lit a.level (trail n d (omega arith)) (decided n d (omega arith)) (within_front n (omega arith)))
        ]

    pub within_trail : (k : Lit) → Contains (falses_of xs) k → Contains falses k
    within_trail k c = within_front (length xs) (omega arith) k (subst (λ (zs : List Assigned). Contains (falses_of zs) k) (sym (take_all (length xs) xs (omega arith))) c)

  module _ (assumed : List Lit) (decided : (i : ℕ) (d : Assigned) → i < length xs → (get_or xs i d).reason ≡ None → Contains assumed (get_or xs i d).lit) where
    -- a falsified clause, where nothing but what is assumed was decided
    pub clash_of_clause : (number : ℕ) → Refutes clauses (falses_of xs) number → IsClash clauses assumed
    clash_of_clause number refuted falses closed units =
        let within = within_trail assumed decided falses closed units in
        let here = names_all (λ c. (¬ IsFalsified (Contains falses) c) × ((l : Lit) → ¬ IsUnit (Contains falses) c l)) clauses number refuted.clause closed refuted.named in
        here.0 (λ k d h. within (get_or refuted.clause k d) (refuted.falsified k d h))

    -- an assumed literal is false, where nothing but what is assumed was decided
    pub clash_of_literal : (l : Lit) → Contains assumed l → Contains (falses_of xs) l → IsClash clauses assumed
    clash_of_literal l is c falses closed units =
        unit_not_false falses l (All-contains (λ (l : Lit). IsClosed ((l ∷ []) ∷ []) falses) assumed l units is) (within_trail assumed decided falses closed units l c)
