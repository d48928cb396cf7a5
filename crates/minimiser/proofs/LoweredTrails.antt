-- Trails that lead a descent, and the scenario at which they end.
use Rattle.std.proofs.Common.{◌≡◌, ◌↔◌, ◌⊎◌, inl, inr, ◌<◌, ◌≤◌, ◌+◌, ◌++◌, [], ◌∷◌, ℕ, suc, Bool, true, false, not, Option, Some, None, List, length, get_or, take, All, Contains, IsTrue, refl, sym, ◌∙◌, ap, subst, arith, append-nil, length-append}
use Rattle.std.specs.Prelude.{MatchBool}
use Rattle.std.specs.Option.{MatchOption, IsSome, unwrap_or}
use Rattle.std.proofs.lemmas.Bool.{cases_lt, cases_Bool}
use Rattle.std.proofs.lemmas.List.{append_assoc, take_all, take-append-le, get_or_append_left}
use Rattle.std.proofs.lemmas.List.Folds.{Any-from_list_any}
use Rattle.std.proofs.lemmas.List.Elements.{All-append, All-contains, Contains-append_left, Contains-get_or, Contains-push, Contains-push_cases}
use Rattle.std.proofs.Math.Seq.{get_or-append_seam}
use Rattle.cnf_core.specs.declared.literal.Lit.{Lit}
use Rattle.cnf_core.specs.Literal.{negation_of, IsClause, HasVarsUpTo}
use Rattle.cnf_core.specs.Valuation.{Satisfies, literal_value, clause_value}
use Rattle.refutation_check.specs.Assumed.{IsOpen}
use Rattle.refutation_check.specs.Chain.{Forces, Refutes}
use Rattle.refutation_check.proofs.Chains.{names_all}
use Rattle.refutation_check.proofs.Entailment.{false_clause, reaches_false}
use Rattle.unit_propagation.specs.declared.assignment_trail.assigned.Assigned.{Assigned}
use Rattle.unit_propagation.specs.Assignments.Trail.{ForcesMore, IsBackTo, IsPlaced, IsTrail, falses_of, level_of}
use Rattle.unit_propagation.proofs.Assignments.Trails.{falses_of-push, level_before}
use Rattle.sat_trail.specs.Closed.{IsClosed}
use Rattle.sat_trail.specs.Deciding.{HasAllValues, IsLowestOpen, decided}
use Rattle.sat_trail.specs.Trailed.{Trailed, IsValue}
use Rattle.sat_trail.proofs.Waiting.{contains_or_not}
use Rattle.rel_formula.specs.Bounds.{cells_of}
use Rattle.rel_formula.specs.Instance.{AreCells, IsScenario, IsInstance, IsMinimalAbove, Includes}
use Rattle.sat_core.proofs.Assumes.{consistent}
use Rattle.translation_rules.specs.Translation.{Translated, StandsFor, var_of}
use Rattle.translation_rules.proofs.Tests.{in_or_not}
use Rattle.minimiser.specs.Lowering.{HasValue, IsBelow, IsLowered, IsMore, Leads}

-- ---- what is false stays so

pub more_same : (old new : Trailed) → new.assigned ≡ old.assigned → IsMore old new
more_same old new e l h = subst (λ (xs : List Assigned). Contains (falses_of xs) l) (sym e) h

falses_left : (xs ys : List Assigned) (l : Lit) → Contains (falses_of xs) l → Contains (falses_of (xs ++ ys)) l
falses_left xs [] l h = subst (λ (zs : List Assigned). Contains (falses_of zs) l) (sym (append-nil xs)) h
falses_left xs (y ∷ ys) l h =
    let one : Contains (falses_of (xs ++ y ∷ [])) l = subst (λ (fs : List Lit). Contains fs l) (sym (falses_of-push xs y)) (Contains-append_left (falses_of xs) (negation_of y.lit ∷ []) l h) in
    subst (λ (zs : List Assigned). Contains (falses_of zs) l) (append_assoc xs (y ∷ []) ys) (falses_left (xs ++ y ∷ []) ys l one)

pub falses_forced : (xs ys : List Assigned) (l : Lit) → ForcesMore xs ys → Contains (falses_of xs) l → Contains (falses_of ys) l
falses_forced xs ys l forces h = subst (λ (zs : List Assigned). Contains (falses_of zs) l) (sym forces.added) (falses_left xs forces.more l h)

module _ (old new : Trailed) (lit : Lit) (forces : ForcesMore (decided old lit).assigned new.assigned) where
  pub more_decided : IsMore old new
  more_decided l h = falses_forced (decided old lit).assigned new.assigned l forces (falses_left old.assigned _ l h)

  -- the literal that was decided is true
  pub decided_false : Contains (falses_of new.assigned) (negation_of lit)
  decided_false =
      falses_forced (decided old lit).assigned new.assigned (negation_of lit) forces
      (subst (λ (fs : List Lit). Contains fs (negation_of lit)) (sym (falses_of-push old.assigned _)) (Contains-push (falses_of old.assigned) (negation_of lit)))

-- a variable whose literal was decided has a value, and so has each before it
pub valued_low : (limit : ℕ) (old new : Trailed) (lit : Lit) → IsLowestOpen limit (falses_of old.assigned) lit.var → ForcesMore (decided old lit).assigned new.assigned → HasAllValues lit.var (falses_of new.assigned)
valued_low limit old new lit lowest forces var low high =
    elim (cases_lt var lit.var) [
      | inl less ↦ let was = lowest.below var low (omega arith) in (was.0, more_decided old new lit forces _ was.1)
      | inr not_less ↦
          let same : lit.var ≡ var = omega arith in
          subst (λ (n : ℕ). (value : Bool) × Contains (falses_of new.assigned) (record { var = n; positive = not value })) same (lit.positive, decided_false old new lit forces)
    ]

-- a trail on which a literal was decided is longer
pub longer : (old new : Trailed) (lit : Lit) → ForcesMore (decided old lit).assigned new.assigned → length old.assigned < length new.assigned
longer old new lit forces =
    let a : Assigned = record { lit = lit; level = level_of old.assigned + 1; reason = None } in
    let all : length new.assigned ≡ length (old.assigned ++ a ∷ []) + length forces.more = ap length forces.added ∙ length-append (old.assigned ++ a ∷ []) forces.more in
    let one : length (old.assigned ++ a ∷ []) ≡ length old.assigned + 1 = length-append old.assigned (a ∷ []) in
    omega arith

-- one more variable has a value
pub valued_next : (old new : Trailed) (last : ℕ) → HasAllValues last (falses_of old.assigned) → IsMore old new → ((value : Bool) × HasValue new last value) → HasAllValues (last + 1) (falses_of new.assigned)
valued_next old new last was more one var low high =
    elim (cases_lt var (last + 1)) [
      | inl less ↦ let there = was var low (omega arith) in (there.0, more _ there.1)
      | inr not_less ↦
          let same : last + 1 ≡ var = omega arith in
          subst (λ (n : ℕ). (value : Bool) × Contains (falses_of new.assigned) (record { var = n; positive = not value })) same one
    ]

-- ---- what is forced is false in a valuation of the clauses

module _ (clauses : List (List Lit)) (v : ℕ → Bool) (satisfied : Satisfies v clauses) where
  abbrev AreFalse : List Lit → Type 0
  AreFalse falses = (l : Lit) → Contains falses l → literal_value v l ≡ false

  forced_by : (before : List Assigned) (r : Option ℕ) (l : Lit) (level : ℕ) → IsSome r →
      MatchOption r (IsOpen (falses_of before) l × (level ≡ level_of before + 1)) (λ n. Forces clauses (falses_of before) n l × (level ≡ level_of before)) → (n : ℕ) × Forces clauses (falses_of before) n l
  forced_by before None l level some placed = absurd cc
  forced_by before (Some n) l level some placed = (n, placed.0)

  forced_one : (xs : List Assigned) (a : Assigned) → IsSome a.reason → IsPlaced clauses xs a → AreFalse (falses_of xs) → AreFalse (falses_of (xs ++ a ∷ []))
  forced_one xs a some placed are =
      let by = forced_by xs a.reason a.lit a.level some placed in
      subst AreFalse (sym (falses_of-push xs a)) (reaches_false v clauses satisfied (falses_of xs) (by.0 ∷ []) (falses_of xs ++ negation_of a.lit ∷ []) (a.lit, by.1, refl) are)

  forced_list : (xs more : List Assigned) → IsTrail clauses (xs ++ more) → All (λ a. IsSome a.reason) more → AreFalse (falses_of xs) → AreFalse (falses_of (xs ++ more))
  forced_list xs [] trail forced are = subst (λ (zs : List Assigned). AreFalse (falses_of zs)) (sym (append-nil xs)) are
  forced_list xs (m ∷ more) trail forced are =
      let front : take (length xs) (xs ++ m ∷ more) ≡ xs = take-append-le (length xs) xs (m ∷ more) (omega arith) ∙ take_all (length xs) xs (omega arith) in
      let at : get_or (xs ++ m ∷ more) (length xs) m ≡ m = get_or-append_seam xs m more m in
      let here = trail (length xs) m (omega (arith, length-append xs (m ∷ more))) in
      let placed : IsPlaced clauses xs m = rw (front, at) at here in
      let assoc : (xs ++ m ∷ []) ++ more ≡ xs ++ m ∷ more = append_assoc xs (m ∷ []) more in
      subst (λ (zs : List Assigned). AreFalse (falses_of zs)) assoc
      (forced_list (xs ++ m ∷ []) more (subst (IsTrail clauses) (sym assoc) trail) (λ k d h. forced (suc k) d (omega arith)) (forced_one xs m (forced 0 m (omega arith)) placed are))

  pub forced_false : (xs ys : List Assigned) → IsTrail clauses ys → ForcesMore xs ys → AreFalse (falses_of xs) → AreFalse (falses_of ys)
  forced_false xs ys trail forces are =
      subst (λ (zs : List Assigned). AreFalse (falses_of zs)) (sym forces.added) (forced_list xs forces.more (subst (IsTrail clauses) forces.added trail) forces.forced are)

  -- no clause is falsified by what is false in a valuation of the clauses
  pub none_refuted : (falses : List Lit) (n : ℕ) → Refutes clauses falses n → AreFalse falses → ⊥
  none_refuted falses n refuted are =
      let t : clause_value v refuted.clause ≡ true = names_all (λ c. IsTrue (clause_value v c)) clauses n refuted.clause satisfied refuted.named in
      let some = Any-from_list_any (literal_value v) refuted.clause t in
      let k_true : literal_value v some.1 ≡ true = some.4 in
      let k_false : literal_value v some.1 ≡ false = are some.1 (All-contains (Contains falses) refuted.clause some.1 refuted.falsified (some.0, some.2, some.3)) in
      absurd cc

-- ---- how a descent goes on

module _ (floor : List ℕ) (count : ℕ) (old new : Trailed) (same : new.clauses ≡ old.clauses) (ordered : IsTrail new.clauses new.assigned) (leads : Leads floor count old) where
  below_old : (v : ℕ → Bool) → IsMore old new → IsBelow new.clauses floor count v (falses_of new.assigned) → IsBelow old.clauses floor count v (falses_of old.assigned)
  below_old v more below = record {
    satisfied = subst (Satisfies v) same below.satisfied;
    above = below.above;
    absent = λ cell low h. below.absent cell low (more _ h);
  }

  module _ (lit : Lit) (forces : ForcesMore (decided old lit).assigned new.assigned) where
    -- one more is decided, which is false below too
    pub leads_on : ((v : ℕ → Bool) → IsBelow new.clauses floor count v (falses_of new.assigned) → literal_value v (negation_of lit) ≡ false) → IsClosed new.clauses (falses_of new.assigned) → Leads floor count new
    leads_on false_too closed = record {
      ordered = ordered;
      closed = closed;
      led = λ v below.
          forced_false new.clauses v below.satisfied (decided old lit).assigned new.assigned ordered forces
          (with_decided v (leads.led v (below_old v (more_decided old new lit forces) below)) (false_too v below));
    }
      where
        with_decided : (v : ℕ → Bool) → ((l : Lit) → Contains (falses_of old.assigned) l → literal_value v l ≡ false) → literal_value v (negation_of lit) ≡ false → (l : Lit) → Contains (falses_of (decided old lit).assigned) l → literal_value v l ≡ false
        with_decided v are is l h =
            let there : Contains (falses_of old.assigned ++ negation_of lit ∷ []) l = subst (λ (fs : List Lit). Contains fs l) (falses_of-push old.assigned _) h in
            elim (Contains-push_cases (falses_of old.assigned) (negation_of lit) l there) [
              | inl before ↦ are l before
              | inr one ↦ subst (λ (x : Lit). literal_value v x ≡ false) one is
            ]

    -- where a valuation below made the literal false, a clause would be falsified
    pub true_below : (v : ℕ → Bool) → Satisfies v new.clauses → ((l : Lit) → Contains (falses_of old.assigned) l → literal_value v l ≡ false) → (n : ℕ) → Refutes new.clauses (falses_of new.assigned) n → literal_value v (negation_of lit) ≡ false → ⊥
    true_below v satisfied are n refuted is =
        let all = forced_false new.clauses v satisfied (decided old lit).assigned new.assigned ordered forces
        (λ l h.
        let there : Contains (falses_of old.assigned ++ negation_of lit ∷ []) l = subst (λ (fs : List Lit). Contains fs l) (falses_of-push old.assigned _) h in
        elim (Contains-push_cases (falses_of old.assigned) (negation_of lit) l there) [
          | inl before ↦ are l before
          | inr one ↦ subst (λ (x : Lit). literal_value v x ≡ false) one is
        ]) in
        none_refuted new.clauses v satisfied (falses_of new.assigned) n refuted all

pub closed_of : (A B : Type 0) (b : Bool) → MatchBool b A B → b ≡ true → A
closed_of A B true is t = is
closed_of A B false is t = absurd cc

pub refuted_of : (A B : Type 0) (b : Bool) → MatchBool b A B → b ≡ false → B
refuted_of A B true is f = absurd cc
refuted_of A B false is f = is

not_of : (b : Bool) → b ≡ true → not b ≡ false
not_of true e = refl
not_of false e = cc

-- a cell of the floor is decided present, or a cell absent
pub given_leads : (floor : List ℕ) (count : ℕ) (old new : Trailed) (cell : ℕ) (is_there : Bool) → cell < count → (is_there ≡ true → Contains floor cell) → new.clauses ≡ old.clauses → IsTrail new.clauses new.assigned →
    ForcesMore (decided old (record { var = cell + 1; positive = is_there })).assigned new.assigned → IsClosed new.clauses (falses_of new.assigned) → Leads floor count old → Leads floor count new
given_leads floor count old new cell true low there same ordered forces closed leads =
    leads_on floor count old new same ordered leads (record { var = cell + 1; positive = true }) forces (λ v below. not_of (v (cell + 1)) (below.above cell (there refl))) closed
given_leads floor count old new cell false low there same ordered forces closed leads =
    let lit : Lit = record { var = cell + 1; positive = false } in
    leads_on floor count old new same ordered leads lit forces (λ v below. below.absent cell low (decided_false old new lit forces)) closed

-- back to the level before a decision, a trail is as it was
module _ (old mid : Trailed) (back : List Assigned) (lit : Lit) (ordered : IsTrail mid.clauses mid.assigned) (was : IsTrail old.clauses old.assigned) (forces : ForcesMore (decided old lit).assigned mid.assigned) (to : IsBackTo (level_of old.assigned) mid.assigned back) where
  abbrev a : Assigned
  a = record { lit = lit; level = level_of old.assigned + 1; reason = None }

  whole : mid.assigned ≡ old.assigned ++ a ∷ forces.more
  whole = forces.added ∙ append_assoc old.assigned (a ∷ []) forces.more

  long : length mid.assigned ≡ length old.assigned + 1 + length forces.more
  long = ap length whole ∙ (length-append old.assigned (a ∷ forces.more) ∙ omega arith)

  old_at : (i : ℕ) → i < length old.assigned → get_or mid.assigned i a ≡ get_or old.assigned i a
  old_at i h = ap (λ (xs : List Assigned). get_or xs i a) whole ∙ get_or_append_left old.assigned (a ∷ forces.more) a i h

  not_before : to.count < length old.assigned → ⊥
  not_before less =
      let high : level_of old.assigned < (get_or mid.assigned to.count a).level = to.undone to.count a (omega arith) (let l = long in omega arith) in
      let same : (get_or mid.assigned to.count a).level ≡ (get_or old.assigned to.count a).level = ap (λ (b : Assigned). b.level) (old_at to.count less) in
      let low : (get_or old.assigned to.count a).level ≤ level_of (take (length old.assigned) old.assigned) = level_before old.clauses old.assigned was (length old.assigned) to.count a less (omega arith) in
      let top : level_of (take (length old.assigned) old.assigned) ≡ level_of old.assigned = ap level_of (take_all (length old.assigned) old.assigned (omega arith)) in
      omega arith

  not_behind : length old.assigned < to.count → ⊥
  not_behind more =
      let here : get_or mid.assigned (length old.assigned) a ≡ a = ap (λ (xs : List Assigned). get_or xs (length old.assigned) a) whole ∙ get_or-append_seam old.assigned a forces.more a in
      let level : (get_or mid.assigned (length old.assigned) a).level ≡ level_of old.assigned + 1 = ap (λ (b : Assigned). b.level) here in
      let low : (get_or mid.assigned (length old.assigned) a).level ≤ level_of (take to.count mid.assigned) = level_before mid.clauses mid.assigned ordered to.count (length old.assigned) a more to.within in
      let top : level_of (take to.count mid.assigned) ≡ level_of back = ap level_of (sym to.stays) in
      let least = to.low in
      omega arith

  pub back_same : back ≡ old.assigned
  back_same =
      let count : to.count ≡ length old.assigned = elim (cases_lt to.count (length old.assigned)) [
        | inl less ↦ absurd (not_before less)
        | inr not_less ↦ elim (cases_lt (length old.assigned) to.count) [ inl more ↦ absurd (not_behind more) | inr not_more ↦ omega arith ]
      ] in
      to.stays ∙ (ap (λ (n : ℕ). take n mid.assigned) count ∙ (ap (λ (xs : List Assigned). take (length old.assigned) xs) whole ∙ (take-append-le (length old.assigned) old.assigned (a ∷ forces.more) (omega arith) ∙ take_all (length old.assigned) old.assigned (omega arith))))

-- a cell whose absence was refuted is decided present
pub refused_leads : (floor : List ℕ) (count : ℕ) (old mid back new : Trailed) (cell n : ℕ) → mid.clauses ≡ old.clauses → IsTrail mid.clauses mid.assigned → ForcesMore (decided old (record { var = cell + 1; positive = false })).assigned mid.assigned →
    Refutes mid.clauses (falses_of mid.assigned) n → back.clauses ≡ old.clauses → back.assigned ≡ old.assigned → new.clauses ≡ back.clauses → IsTrail new.clauses new.assigned → ForcesMore (decided back (record { var = cell + 1; positive = true })).assigned new.assigned →
    IsClosed new.clauses (falses_of new.assigned) → Leads floor count old → Leads floor count new
refused_leads floor count old mid back new cell n mid_same mid_ordered mid_forces refuted back_clauses back_assigned same ordered forces closed leads =
    let absent : Lit = record { var = cell + 1; positive = false } in
    let present : Lit = record { var = cell + 1; positive = true } in
    let again : Leads floor count back = record {
      ordered = rw (back_clauses, back_assigned) leads.ordered;
      closed = rw (back_clauses, back_assigned) leads.closed;
      led = rw (back_clauses, back_assigned) leads.led;
    } in
    leads_on floor count back new same ordered again present forces
    (λ v below. elim (cases_Bool (v (cell + 1))) [
      | inl on ↦ not_of (v (cell + 1)) on
      | inr off ↦
          let under = below_old floor count back new same ordered again v (more_decided back new present forces) below in
          let are = again.led v under in
          let old_are : (l : Lit) → Contains (falses_of old.assigned) l → literal_value v l ≡ false = subst (λ (xs : List Assigned). (l : Lit) → Contains (falses_of xs) l → literal_value v l ≡ false) back_assigned are in
          let satisfied : Satisfies v mid.clauses = subst (Satisfies v) (sym mid_same) (subst (Satisfies v) back_clauses under.satisfied) in
          absurd (true_below floor count old mid mid_same mid_ordered leads absent mid_forces v satisfied old_are n refuted off)
    ]) closed

-- ---- where a descent begins

some_reason : (o : Option ℕ) → (o ≡ None → ⊥) → IsSome o
some_reason None none = absurd (none refl)
some_reason (Some n) none = cc

-- nothing is decided yet
pub leads_first : (floor : List ℕ) (count : ℕ) (old new : Trailed) → new.clauses ≡ old.clauses → IsTrail new.clauses new.assigned → IsClosed new.clauses (falses_of new.assigned) → ForcesMore old.assigned new.assigned →
    ((i : ℕ) (d : Assigned) → i < length old.assigned → (get_or old.assigned i d).reason ≡ None → ⊥) → Leads floor count new
leads_first floor count old new same ordered closed forces none =
    let all : ForcesMore [] new.assigned = record {
      more = new.assigned;
      added = refl;
      forced = subst (All (λ (b : Assigned). IsSome b.reason)) (sym forces.added) (All-append (λ (b : Assigned). IsSome b.reason) old.assigned forces.more (λ i d h. some_reason (get_or old.assigned i d).reason (none i d h)) forces.forced);
    } in
    record {
      ordered = ordered;
      closed = closed;
      led = λ v below. forced_false new.clauses v below.satisfied [] new.assigned ordered all (λ l h. absurd (omega (arith, h.1)));
    }

-- ---- the scenario at which it ends

abbrev pub is_in : {A : Type 0} → A ⊎ (A → ⊥) → Bool
is_in (inl there) = true
is_in (inr not_there) = false

in_of : {A : Type 0} → (s : A ⊎ (A → ⊥)) → is_in s ≡ true → A
in_of (inl there) t = there
in_of (inr not_there) t = absurd cc

of_in : {A : Type 0} → (s : A ⊎ (A → ⊥)) → A → is_in s ≡ true
of_in (inl there) is = refl
of_in (inr not_there) is = absurd (not_there is)

-- the variables are true whose negations are false
abbrev pub true_in : List Lit → ℕ → Bool
true_in falses var = is_in (contains_or_not falses (record { var = var; positive = false }))

pub where_true : (falses : List Lit) (var : ℕ) → true_in falses var ≡ true → Contains falses (record { var = var; positive = false })
where_true falses var t = in_of (contains_or_not falses (record { var = var; positive = false })) t

pub true_where : (falses : List Lit) (var : ℕ) → Contains falses (record { var = var; positive = false }) → true_in falses var ≡ true
true_where falses var h = of_in (contains_or_not falses (record { var = var; positive = false })) h

-- a variable without a value counts as false
pub value_in : (clauses : List (List Lit)) (assigned : List Assigned) → IsTrail clauses assigned → (var : ℕ) (o : Option Bool) → IsValue (falses_of assigned) var o → unwrap_or o false ≡ true_in (falses_of assigned) var
value_in clauses assigned ordered var None is =
    elim (cases_Bool (true_in (falses_of assigned) var)) [ inl t ↦ absurd (is false (where_true (falses_of assigned) var t)) | inr f ↦ sym f ]
value_in clauses assigned ordered var (Some true) is = sym (true_where (falses_of assigned) var is)
value_in clauses assigned ordered var (Some false) is =
    elim (cases_Bool (true_in (falses_of assigned) var)) [
      | inl t ↦ absurd (consistent clauses assigned ordered (record { var = var; positive = true }) is (where_true (falses_of assigned) var t))
      | inr f ↦ sym f
    ]

-- a literal that is false under these values is false on the trail
false_literal : (falses : List Lit) (vars : ℕ) → HasAllValues vars falses → (l : Lit) → 1 ≤ l.var → l.var ≤ vars → literal_value (true_in falses) l ≡ false → Contains falses l
false_literal falses vars valued l low high f = by_sign l.var l.positive low high f
  where
    by_value : (var : ℕ) (value : Bool) → true_in falses var ≡ false → Contains falses (record { var = var; positive = not value }) → Contains falses (record { var = var; positive = true })
    by_value var false none h = h
    by_value var true none h = let t : true_in falses var ≡ true = true_where falses var h in absurd cc

    is_not : (b : Bool) → not b ≡ false → b ≡ true
    is_not true e = refl
    is_not false e = cc

    by_sign : (var : ℕ) (positive : Bool) → 1 ≤ var → var ≤ vars → literal_value (true_in falses) (record { var = var; positive = positive }) ≡ false → Contains falses (record { var = var; positive = positive })
    by_sign var true low high f = by_value var (valued var low high).0 f (valued var low high).1
    by_sign var false low high f = where_true falses var (is_not (true_in falses var) f)

-- where propagation is at its end and each variable has a value, the clauses are satisfied
pub satisfied_by : (falses : List Lit) (vars : ℕ) (clauses : List (List Lit)) → HasAllValues vars falses → IsClosed clauses falses → All IsClause clauses → All (HasVarsUpTo vars) clauses → Satisfies (true_in falses) clauses
satisfied_by falses vars clauses valued closed each within k d h = elim (cases_Bool (clause_value (true_in falses) (get_or clauses k d))) [
  | inl t ↦ t
  | inr f ↦ absurd ((closed k d h).0 (λ j e m.
      let l : Lit = get_or (get_or clauses k d) j e in
      false_literal falses vars valued l ((each k d h).variables j e m).0 (within k d h j e m) (false_clause (true_in falses) (get_or clauses k d) f l (Contains-get_or (get_or clauses k d) j e m))))
]

-- the scenario of the cells that were there at the end of a descent is minimal
module _ (t : Translated) (stands : StandsFor t.problem t) (floor start s : List ℕ) (floor_in : AreCells t.problem floor) (above : Includes start floor) (low full : Trailed) (same : low.clauses ≡ t.cnf.clauses) (lowered : IsLowered floor start (length (cells_of t.problem)) low)
    (is_scenario : IsScenario t.problem s) (values : (cell : ℕ) → cell < length (cells_of t.problem) → HasValue low cell true ↔ Contains s cell) where
  absent_or : (value : Bool) (cell : ℕ) → cell < length (cells_of t.problem) → HasValue low cell value → (Contains s cell → ⊥) → HasValue low cell false
  absent_or true cell in_range h out = absurd (out ((values cell in_range).0 h))
  absent_or false cell in_range h out = h

  not_both : (cell : ℕ) → HasValue low cell false → HasValue low cell true → ⊥
  not_both cell off on = consistent low.clauses low.assigned lowered.leads.ordered (record { var = cell + 1; positive = true }) off on

  pub has_floor : Includes s floor
  has_floor cell there =
      let in_range : cell < length (cells_of t.problem) = All-contains (λ n. n < length (cells_of t.problem)) floor cell floor_in there in
      (values cell in_range).0 ((lowered.bounded cell in_range).above there)

  pub in_start : Includes start s
  in_start cell there =
      let in_range : cell < length (cells_of t.problem) = All-contains (λ n. n < length (cells_of t.problem)) s cell is_scenario.cells there in
      elim (in_or_not cell start) [
        | inl is ↦ is
        | inr out ↦ absurd (not_both cell ((lowered.bounded cell in_range).within (λ h. out (above cell h)) out) ((values cell in_range).1 there))
      ]

  -- what lies below has all of its cells
  least : (u : List ℕ) → IsInstance t.problem u → Includes u floor → Includes s u → Includes u s
  least u is over within cell there =
      let sat = (stands.instances u is.scenario).0 is in
      let v = sat.valuation in
      let in_range : cell < length (cells_of t.problem) = All-contains (λ n. n < length (cells_of t.problem)) s cell is_scenario.cells there in
      let below : IsBelow low.clauses floor (length (cells_of t.problem)) v (falses_of low.assigned) = record {
        satisfied = subst (Satisfies v) (sym same) sat.satisfied;
        above = λ c h. (sat.cells c (All-contains (λ n. n < length (cells_of t.problem)) floor c floor_in h)).1 (over c h);
        absent = λ c less off. elim (cases_Bool (v (c + 1))) [
          | inl on ↦ absurd (not_both c off ((values c less).1 (within c ((sat.cells c less).0 on))))
          | inr is_off ↦ is_off
        ];
      } in
      let off : literal_value v (record { var = cell + 1; positive = false }) ≡ false = lowered.leads.led v below (record { var = cell + 1; positive = false }) ((values cell in_range).1 there) in
      (sat.cells cell in_range).0 (is_not (v (cell + 1)) off)
    where
      is_not : (b : Bool) → not b ≡ false → b ≡ true
      is_not true e = refl
      is_not false e = cc

  module _ (vars : ℕ) (same_full : full.clauses ≡ t.cnf.clauses) (ordered : IsTrail full.clauses full.assigned) (more : IsMore low full) (closed : IsClosed full.clauses (falses_of full.assigned)) (valued : HasAllValues vars (falses_of full.assigned))
      (each : All IsClause t.cnf.clauses) (within : All (HasVarsUpTo vars) t.cnf.clauses) where
    has_cells : (cell : ℕ) → cell < length (cells_of t.problem) → IsTrue (true_in (falses_of full.assigned) (var_of cell)) ↔ Contains s cell
    has_cells cell in_range = (
      λ on. elim (in_or_not cell s) [
        | inl is ↦ is
        | inr out ↦
            let off : HasValue low cell false = absent_or (lowered.valued (cell + 1) (omega arith) (omega arith)).0 cell in_range (lowered.valued (cell + 1) (omega arith) (omega arith)).1 out in
            absurd (consistent full.clauses full.assigned ordered (record { var = cell + 1; positive = true }) (more _ off) (where_true (falses_of full.assigned) (cell + 1) on))
      ],
      λ there. true_where (falses_of full.assigned) (cell + 1) (more _ ((values cell in_range).1 there)),
    )

    pub is_minimal : IsMinimalAbove t.problem floor s
    is_minimal = record {
      instance_of = (stands.instances s is_scenario).1 (record {
        valuation = true_in (falses_of full.assigned);
        cells = has_cells;
        satisfied = satisfied_by (falses_of full.assigned) vars t.cnf.clauses valued (subst (λ (cs : List (List Lit)). IsClosed cs (falses_of full.assigned)) same_full closed) each within;
      });
      above = has_floor;
      least = least;
    }
