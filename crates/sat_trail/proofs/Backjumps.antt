-- Where a trail goes back to for a clause that was learnt.
use Rattle.std.proofs.Common.{◌≡◌, ◌<◌, ◌≤◌, ◌+◌, ◌++◌, [], ◌∷◌, ℕ, false, None, List, length, get_or, take, All, arith, sym, ◌∙◌, ap, inl, inr, refl, subst, length-take, get_or-take, take-take}
use Rattle.std.proofs.lemmas.Bool.{cases_lt, cases_eq}
use Rattle.std.proofs.lemmas.List.{get_or_default, take_all}
use Rattle.std.proofs.lemmas.List.Elements.{All-contains, All-push}
use Rattle.std.specs.List.{Contains}
use Rattle.cnf_core.specs.declared.literal.Lit.{Lit}
use Rattle.cnf_core.specs.Literal.{negation_of}
use Rattle.unit_propagation.specs.declared.assignment_trail.assigned.Assigned.{Assigned}
use Rattle.unit_propagation.specs.Assignments.Trail.{IsBackTo, IsTrail, falses_of, level_of}
use Rattle.unit_propagation.proofs.Assignments.Trails.{IsTrail-cut, from_front, level_before, level_rises, vars_differ}
use Rattle.sat_trail.specs.Closed.{IsClosedBelow}
use Rattle.sat_trail.specs.Learnt.{IsAsserting, IsBackLevel}
use Rattle.sat_trail.specs.Levels.{IsBelowTwo, IsFrom, IsHighestBelow}
use Rattle.sat_trail.specs.Rounds.{IsQuiet}
use Rattle.sat_trail.specs.Trailed.{Trailed}
use Rattle.sat_trail.proofs.Learned.{placed_decided}
use Rattle.sat_trail.proofs.Trails.{with_clauses}

none : Assigned
none = record { lit = record { var = 0; positive = false }; level = 0; reason = None }

var_of : (k l : Lit) → negation_of k ≡ l → k.var ≡ l.var
var_of k l is = ap (λ (x : Lit). x.var) is

-- no literal's level is above that of the newest
pub level_top : (clauses : List (List Lit)) (xs : List Assigned) → IsTrail clauses xs → (i : ℕ) (d : Assigned) → i < length xs → (get_or xs i d).level ≤ level_of xs
level_top clauses xs trail i d h =
    let up : (get_or xs i d).level ≤ level_of (take (length xs) xs) = level_before clauses xs trail (length xs) i d h (omega arith) in
    let same : level_of (take (length xs) xs) ≡ level_of xs = ap level_of (take_all (length xs) xs (omega arith)) in
    omega (arith, up, same)

-- the highest level below the highest one is the second highest
module _ (clauses : List (List Lit)) (xs : List Assigned) (lits : List Lit) (bound top level : ℕ) (trail : IsTrail clauses xs) (asserting : IsAsserting xs lits) (high : level_of xs < bound) (one : IsHighestBelow xs lits bound top) (two : IsHighestBelow xs lits top level) where
  top_is : (d : Assigned) → (get_or xs asserting.place d).level ≡ top
  top_is d =
      let up : (get_or xs asserting.place d).level ≤ level_of xs = level_top clauses xs trail asserting.place d asserting.in_range in
      let low : (get_or xs asserting.place d).level ≤ top = one.at_most (negation_of (get_or xs asserting.place d).lit) asserting.place d (asserting.has d) asserting.in_range refl (omega (arith, up, high)) in
      let r = one.reached (omega (arith, low, asserting.above d)) in
      elim (asserting.others r.0 d r.1) [
        | inl same ↦ r.3 asserting.place d asserting.in_range (var_of (get_or xs asserting.place d).lit r.0 same)
        | inr (k, in', lower, same) ↦ let e : (get_or xs k d).level ≡ top = r.3 k d in' (var_of (get_or xs k d).lit r.0 same) in absurd (omega (arith, e, lower, low))
      ]

  second_reached : 0 < level → (k : ℕ) × (k < length xs) × ((d : Assigned) → (get_or xs k d).level ≡ level) × ((d : Assigned) → Contains lits (negation_of (get_or xs k d).lit))
  second_reached some =
      let r = two.reached some in
      elim (asserting.others r.0 none r.1) [
        | inl same ↦
            let e : (get_or xs asserting.place none).level ≡ level = r.3 asserting.place none asserting.in_range (var_of (get_or xs asserting.place none).lit r.0 same) in
            absurd (omega (arith, e, r.2, top_is none))
        | inr (k, in', lower, same) ↦
            let at : (d : Assigned) → negation_of (get_or xs k d).lit ≡ r.0 = λ d. ap (λ (a : Assigned). negation_of a.lit) (get_or_default xs k d none in') ∙ same in
            (k, in', λ d. r.3 k d in' (var_of (get_or xs k d).lit r.0 (at d)), λ d. subst (Contains lits) (sym (at d)) r.1)
      ]

  pub second_highest : IsBackLevel xs lits level
  second_highest =
      record {
        place = asserting.place;
        in_range = asserting.in_range;
        above = λ d. elim (cases_eq level 0) [
          | inl e ↦ omega (arith, e, asserting.above d)
          | inr ne ↦ let r = two.reached (omega (arith, ne)) in omega (arith, r.2, top_is d)
        ];
        has = asserting.has;
        others = λ l d c. elim (asserting.others l d c) [
          | inl same ↦ inl same
          | inr (k, in', lower, same) ↦ inr (k, in', two.at_most l k d c in' (var_of (get_or xs k d).lit l same) (omega (arith, lower, top_is d)), same)
        ];
        reached = second_reached;
      }

-- where a clause says nothing before each decision that stays, what was closed before each decision is so with the clause
module _ (clauses : List (List Lit)) (xs : List Assigned) (lits : List Lit) (level : ℕ) (trail : IsTrail clauses xs)
    (quiet : (i : ℕ) (d : Assigned) → i < length xs → (get_or xs i d).reason ≡ None → (get_or xs i d).level ≤ level → IsQuiet (falses_of (take i xs)) lits) where
  pub closed_where_quiet : IsClosedBelow clauses xs → (ys : List Assigned) → IsBackTo level xs ys → IsClosedBelow (clauses ++ lits ∷ []) ys
  closed_where_quiet closed ys to =
      let cut : List Assigned = take to.count xs in
      let top : level_of cut ≤ level = subst (λ (zs : List Assigned). level_of zs ≤ level) to.stays to.low in
      subst (λ (zs : List Assigned). IsClosedBelow (clauses ++ lits ∷ []) zs) (sym to.stays) (λ i d h decided.
      let here : i < to.count = omega (arith, h, length-take to.count xs) in
      let in' : i < length xs = omega (arith, h, length-take to.count xs) in
      let at : get_or cut i d ≡ get_or xs i d = get_or-take to.count xs i d here in
      let before : take i cut ≡ take i xs = take-take i to.count xs (omega (arith, here)) in
      let up : (get_or cut i d).level ≤ level_of cut = level_top clauses cut (IsTrail-cut clauses xs to.count trail) i d h in
      let low : (get_or xs i d).level ≤ level = omega (arith, up, top, ap (λ (a : Assigned). a.level) at) in
      let reason : (get_or xs i d).reason ≡ None = ap (λ (a : Assigned). a.reason) (sym at) ∙ decided in
      subst (λ (zs : List Assigned). All (IsQuiet (falses_of zs)) (clauses ++ lits ∷ [])) (sym before) (All-push (IsQuiet (falses_of (take i xs))) clauses lits (closed i d in' reason) (quiet i d in' reason low)))

-- the clause says nothing before a decision that stays
module _ (clauses : List (List Lit)) (xs : List Assigned) (lits : List Lit) (level : ℕ) (trail : IsTrail clauses xs) (back : IsBackLevel xs lits level) where
  module _ (i : ℕ) (d : Assigned) (h : i < length xs) (decided : (get_or xs i d).reason ≡ None) (low : (get_or xs i d).level ≤ level) where
    next : (get_or xs i d).level ≡ level_of (take i xs) + 1
    next = placed_decided clauses (take i xs) (get_or xs i d) (trail i d h) decided

    -- a literal of this level or of a higher one is not false yet
    not_false : (k : ℕ) → k < length xs → (get_or xs i d).level ≤ (get_or xs k d).level → Contains (falses_of (take i xs)) (negation_of (get_or xs k d).lit) → ⊥
    not_false k in' above c =
        let r = from_front xs i (negation_of (get_or xs k d).lit) c in
        let before : (get_or xs r.0 d).level ≤ level_of (take i xs) = level_before clauses xs trail i r.0 d r.1 (omega (arith, h)) in
        let same : (get_or xs r.0 d).lit.var ≡ (get_or xs k d).lit.var = ap (λ (l : Lit). l.var) (r.3 d) in
        elim (cases_lt r.0 k) [
          | inl lt ↦ vars_differ clauses xs trail r.0 k d d lt in' same
          | inr ge ↦ let up : (get_or xs k d).level ≤ (get_or xs r.0 d).level = level_rises clauses xs trail k r.0 d (omega (arith, ge)) r.2 in omega (arith, up, before, next, above)
        ]

    pub quiet_before : IsQuiet (falses_of (take i xs)) lits
    quiet_before =
        let other = back.reached (omega (arith, next, low)) in
        let point : Lit = negation_of (get_or xs back.place d).lit in
        let second : Lit = negation_of (get_or xs other.0 d).lit in
        let not_point : Contains (falses_of (take i xs)) point → ⊥ = not_false back.place back.in_range (omega (arith, low, back.above d)) in
        let not_second : Contains (falses_of (take i xs)) second → ⊥ = not_false other.0 other.1 (omega (arith, low, other.2 d)) in
        let apart : point ≡ second → ⊥ = λ e. elim (cases_lt other.0 back.place) [
          | inl lt ↦ vars_differ clauses xs trail other.0 back.place d d lt back.in_range (sym (ap (λ (l : Lit). l.var) e))
          | inr ge ↦ let up : (get_or xs back.place d).level ≤ (get_or xs other.0 d).level = level_rises clauses xs trail back.place other.0 d (omega (arith, ge)) other.1 in omega (arith, up, back.above d, other.2 d)
        ] in (
          λ all. not_point (All-contains (Contains (falses_of (take i xs))) lits point all (back.has d)),
          λ l unit. not_point (unit.others point (back.has d) (λ e. not_second (unit.others second (other.3 d) (λ f. apart (e ∙ sym f))))),
        )

  -- what was closed before each decision is so with the clause, back at that level
  pub closed_back : IsClosedBelow clauses xs → (ys : List Assigned) → IsBackTo level xs ys → IsClosedBelow (clauses ++ lits ∷ []) ys
  closed_back = closed_where_quiet clauses xs lits level trail quiet_before

-- where two literals have no value before the decisions that stay, or none stays, the clause says nothing before them
module _ (clauses : List (List Lit)) (xs : List Assigned) (lits : List Lit) (level : ℕ) (trail : IsTrail clauses xs) (below : IsBelowTwo xs lits level) where
  module _ (i : ℕ) (d : Assigned) (h : i < length xs) (decided : (get_or xs i d).reason ≡ None) (low : (get_or xs i d).level ≤ level) where
    begins : (get_or xs i d).level ≡ level_of (take i xs) + 1
    begins = placed_decided clauses (take i xs) (get_or xs i d) (trail i d h) decided

    open_yet : (l : Lit) → IsFrom xs (level + 1) l → Contains (falses_of (take i xs)) l → ⊥
    open_yet l from c =
        let r = from_front xs i l c in
        let before : (get_or xs r.0 d).level ≤ level_of (take i xs) = level_before clauses xs trail i r.0 d r.1 (omega (arith, h)) in
        let up : level + 1 ≤ (get_or xs r.0 d).level = from r.0 d r.2 (ap (λ (x : Lit). x.var) (r.3 d)) in
        omega (arith, up, before, begins, low)

    quiet_below : IsQuiet (falses_of (take i xs)) lits
    quiet_below =
        elim below [
          | inl none ↦ absurd (omega (arith, none, begins, low))
          | inr two ↦ (
            λ all. open_yet two.one two.one_from (All-contains (Contains (falses_of (take i xs))) lits two.one all two.has_one),
            λ l unit. open_yet two.one two.one_from (unit.others two.one two.has_one (λ e. open_yet two.other two.other_from (unit.others two.other two.has_other (λ f. two.apart (ap (λ (x : Lit). x.var) (e ∙ sym f)))))),
          )
        ]

  pub closed_below_two : IsClosedBelow clauses xs → (ys : List Assigned) → IsBackTo level xs ys → IsClosedBelow (clauses ++ lits ∷ []) ys
  closed_below_two = closed_where_quiet clauses xs lits level trail quiet_below

-- so where the clause is put in there
pub closed_put : (old back new : Trailed) (lits : List Lit) (level : ℕ) → IsTrail old.clauses old.assigned → IsBelowTwo old.assigned lits level → IsBackTo level old.assigned back.assigned → back.clauses ≡ old.clauses
    → new ≡ with_clauses back (back.clauses ++ lits ∷ []) → IsClosedBelow old.clauses old.assigned → IsClosedBelow new.clauses new.assigned
closed_put old back new lits level trail below to same put closed =
    let there : IsClosedBelow (old.clauses ++ lits ∷ []) back.assigned = closed_below_two old.clauses old.assigned lits level trail below closed back.assigned to in
    let here : IsClosedBelow (back.clauses ++ lits ∷ []) back.assigned = subst (λ (cs : List (List Lit)). IsClosedBelow (cs ++ lits ∷ []) back.assigned) (sym same) there in
    subst (λ (t : Trailed). IsClosedBelow t.clauses t.assigned) (sym put) here
