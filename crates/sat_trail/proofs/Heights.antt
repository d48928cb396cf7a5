-- The highest level of a clause's literals.
use Rattle.std.proofs.Common.{◌≡◌, ◌<◌, ◌≤◌, ◌+◌, ◌-◌, ◌++◌, [], ◌∷◌, ◌⊎◌, ℕ, Bool, true, false, not, Option, Some, None, List, Contains, length, get_or, take, max, min, arith, sym, ◌∙◌, ap, inl, inr, refl, subst}
use Rattle.std.proofs.lemmas.Bool.{cases_lt}
use Rattle.std.proofs.lemmas.List.{get_or_default, get_or-take, length-take-le, take_more}
use Rattle.std.proofs.lemmas.List.Elements.{Contains-append_left, Contains-push, Contains-push_cases}
use Rattle.std.specs.Option.{is_some}
use Rattle.cnf_core.specs.declared.literal.Lit.{Lit}
use Rattle.unit_propagation.specs.declared.assignment_trail.assigned.Assigned.{Assigned}
use Rattle.cnf_core.specs.Literal.{negation_of, IsClause}
use Rattle.refutation_check.specs.Assumed.{IsOpen}
use Rattle.refutation_check.proofs.Sights.{lit_cases}
use Rattle.unit_propagation.specs.Assignments.AssignmentState.{IsValueOf}
use Rattle.unit_propagation.specs.Assignments.Trail.{falses_of, level_of}
use Rattle.unit_propagation.proofs.Assignments.Trails.{from_falses, in_falses, neg_neg}
use Rattle.sat_trail.specs.Levels.{AreTwoFrom, IsBelowTwo, IsFrom, IsHighestBelow, IsHighestBelowTwo}

-- no literals yet
pub highest_none : (assigned : List Assigned) (below : ℕ) → IsHighestBelow assigned [] below 0
highest_none assigned below = record { at_most = λ l i d c. absurd (omega (arith, c.1)); reached = λ h. absurd (omega arith) }

-- one literal more
highest_push : (assigned : List Assigned) (lits : List Lit) (x : Lit) (below old new level : ℕ) → IsHighestBelow assigned lits below old → ((i : ℕ) (d : Assigned) → i < length assigned → (get_or assigned i d).lit.var ≡ x.var → level ≡ (get_or assigned i d).level) →
    old ≤ new → (level < below → level ≤ new) → (new ≡ old) ⊎ ((new ≡ level) × (level < below)) → IsHighestBelow assigned (lits ++ x ∷ []) below new
highest_push assigned lits x below old new level was of le reaches either =
    record {
      at_most = λ l i d c in' var low. elim (Contains-push_cases lits x l c) [
        | inl before ↦ let a : (get_or assigned i d).level ≤ old = was.at_most l i d before in' var low in omega (arith, a, le)
        | inr one ↦
            let same : level ≡ (get_or assigned i d).level = of i d in' (var ∙ ap (λ (k : Lit). k.var) (sym one)) in
            omega (arith, same, reaches (omega (arith, same, low)))
      ];
      reached = λ some. elim either [
        | inl same ↦
            let r = was.reached (omega (arith, same, some)) in
            (r.0, Contains-append_left lits (x ∷ []) r.0 r.1, omega (arith, same, r.2), λ i d in' var. r.3 i d in' var ∙ sym same)
        | inr both ↦ (x, Contains-push lits x, omega (arith, both.0, both.1), λ i d in' var. sym (of i d in' var) ∙ sym both.0)
      ];
    }

pub highest_more : (assigned : List Assigned) (lits : List Lit) (n : ℕ) (x : Lit) (below old new level : ℕ) → n < length lits → IsHighestBelow assigned (take n lits) below old →
    ((i : ℕ) (d : Assigned) → i < length assigned → (get_or assigned i d).lit.var ≡ (get_or lits n x).var → level ≡ (get_or assigned i d).level) → old ≤ new → (level < below → level ≤ new) → (new ≡ old) ⊎ ((new ≡ level) × (level < below)) →
    IsHighestBelow assigned (take (n + 1) lits) below new
highest_more assigned lits n x below old new level in' was of le reaches either =
    subst (λ (ls : List Lit). IsHighestBelow assigned ls below new) (sym (take_more lits n x in')) (highest_push assigned (take n lits) (get_or lits n x) below old new level was of le reaches either)

-- a literal of this level or of a higher one, where that isn't 0; and two such
abbrev pub HasOneFrom : List Assigned → List Lit → ℕ → Type 0
HasOneFrom assigned lits level = (level ≡ 0) ⊎ ((l : Lit) × Contains lits l × IsFrom assigned level l)

abbrev pub HasTwoFrom : List Assigned → List Lit → ℕ → Type 0
HasTwoFrom assigned lits level = (level ≡ 0) ⊎ AreTwoFrom assigned lits level

from_lower : (assigned : List Assigned) (high low : ℕ) (l : Lit) → low ≤ high → IsFrom assigned high l → IsFrom assigned low l
from_lower assigned high low l le from i d h var = let up : high ≤ (get_or assigned i d).level = from i d h var in omega (arith, up, le)

-- the two highest levels of literals, where an open one is of the next level, which is above each other one
pub record AreTwoHighest (assigned : List Assigned) (lits : List Lit) (next : ℕ) (highest : ℕ × ℕ) : Type 0 where
  pub one : HasOneFrom assigned lits highest.0
  pub two : HasTwoFrom assigned lits highest.1
  pub within : highest.1 ≤ next
  pub one_most : (level : ℕ) (l : Lit) → level ≤ next → Contains lits l → IsFrom assigned level l → level ≤ highest.0
  pub two_most : (level : ℕ) → level ≤ next → AreTwoFrom assigned lits level → level ≤ highest.1

pub two_none : (assigned : List Assigned) (next : ℕ) → AreTwoHighest assigned [] next (0, 0)
two_none assigned next =
    record {
      one = inl refl;
      two = inl refl;
      within = omega arith;
      one_most = λ level l low c from. absurd (omega (arith, c.1));
      two_most = λ level low pair. absurd (omega (arith, pair.has_one.1));
    }

-- an open literal is of any level
pub open_from : (assigned : List Assigned) (l : Lit) (level : ℕ) → IsOpen (falses_of assigned) l → IsFrom assigned level l
open_from assigned l level is_open i d h var =
    let there : Contains (falses_of assigned) (negation_of (get_or assigned i d).lit) = in_falses assigned i d h in
    elim (lit_cases (get_or assigned i d).lit l var) [
      | inl one ↦ absurd (is_open.1 (subst (λ (k : Lit). Contains (falses_of assigned) (negation_of k)) one there))
      | inr opposite ↦ absurd (is_open.0 (subst (Contains (falses_of assigned)) (ap negation_of opposite ∙ neg_neg l) there))
    ]

false_at : (assigned : List Assigned) (k l : Lit) → k.var ≡ l.var → Contains (falses_of assigned) k → (i : ℕ) × (i < length assigned) × ((d : Assigned) → (get_or assigned i d).lit.var ≡ l.var)
false_at assigned k l same c = let r = from_falses assigned k c in (r.0, r.1, λ d. ap (λ (x : Lit). x.var) (r.2 d) ∙ same)

-- where a literal that isn't open stands in the trail
valued_at : (assigned : List Assigned) (l : Lit) (o : Option Bool) (none : Bool) → IsValueOf (falses_of assigned) l o → is_some o ≡ not none → none ≡ false → (i : ℕ) × (i < length assigned) × ((d : Assigned) → (get_or assigned i d).lit.var ≡ l.var)
valued_at assigned l None none is some set = let e : false ≡ true = some ∙ ap not set in absurd cc
valued_at assigned l (Some true) none is some set = false_at assigned (negation_of l) l refl is.0
valued_at assigned l (Some false) none is some set = false_at assigned l l refl is.0

-- it is of its level and of no higher one
pub valued_most : (assigned : List Assigned) (l : Lit) (level next : ℕ) (o : Option Bool) (none : Bool) → IsValueOf (falses_of assigned) l o → is_some o ≡ not none → none ≡ false
    → ((i : ℕ) (d : Assigned) → i < length assigned → (get_or assigned i d).lit.var ≡ l.var → level ≡ (get_or assigned i d).level) → ((i : ℕ) (d : Assigned) → i < length assigned → (get_or assigned i d).level < next)
    → (level < next) × ((low : ℕ) → IsFrom assigned low l → low ≤ level)
valued_most assigned l level next o none value some set of above =
    let d : Assigned = record { lit = l; level = 0; reason = None } in
    let at = valued_at assigned l o none value some set in
    let e : level ≡ (get_or assigned at.0 d).level = of at.0 d at.1 (at.2 d) in
    let top : (get_or assigned at.0 d).level < next = above at.0 d at.1 in
    (omega (arith, e, top), λ low from. let up : low ≤ (get_or assigned at.0 d).level = from at.0 d at.1 (at.2 d) in omega (arith, e, up))

-- one literal more of a clause
module _ (assigned : List Assigned) (lits : List Lit) (n : ℕ) (x : Lit) (next : ℕ) (old new : ℕ × ℕ) (level : ℕ) (clause : IsClause lits) (in' : n < length lits) (from : IsFrom assigned level (get_or lits n x)) (within : level ≤ next)
    (most : (low : ℕ) → low ≤ next → IsFrom assigned low (get_or lits n x) → low ≤ level) (first : new.0 ≡ max old.0 level) (second : new.1 ≡ max old.1 (min old.0 level)) where
  abbrev here : Lit
  here = get_or lits n x

  more_is : take (n + 1) lits ≡ take n lits ++ here ∷ []
  more_is = take_more lits n x in'

  wider : (l : Lit) → Contains (take n lits) l → Contains (take (n + 1) lits) l
  wider l c = subst (λ (ls : List Lit). Contains ls l) (sym more_is) (Contains-append_left (take n lits) (here ∷ []) l c)

  has_here : Contains (take (n + 1) lits) here
  has_here = subst (λ (ls : List Lit). Contains ls here) (sym more_is) (Contains-push (take n lits) here)

  here_or_before : (l : Lit) → Contains (take (n + 1) lits) l → Contains (take n lits) l ⊎ (here ≡ l)
  here_or_before l c = Contains-push_cases (take n lits) here l (subst (λ (ls : List Lit). Contains ls l) more_is c)

  here_most : (low : ℕ) (l : Lit) → low ≤ next → here ≡ l → IsFrom assigned low l → low ≤ level
  here_most low l le same l_from = most low le (subst (IsFrom assigned low) (sym same) l_from)

  apart : (l : Lit) → Contains (take n lits) l → l.var ≡ here.var → ⊥
  apart l (k, h, e) same =
      let before : k < n = omega (arith, h, length-take-le n lits (omega (arith, in'))) in
      let at : (get_or lits k l).var ≡ l.var = ap (λ (y : Lit). y.var) (sym (get_or-take n lits k l before) ∙ e) in
      let last : (get_or lits n l).var ≡ (get_or lits n x).var = ap (λ (y : Lit). y.var) (get_or_default lits n l x in') in
      let rise : (get_or lits k l).var < (get_or lits n l).var = clause.rising k n l before in' in
      omega (arith, rise, same, at, last)

  still_two : HasTwoFrom assigned (take n lits) old.1 → HasTwoFrom assigned (take (n + 1) lits) old.1
  still_two two =
      elim two [
        | inl none ↦ inl none
        | inr pair ↦ inr (record {
          one = pair.one;
          other = pair.other;
          has_one = wider pair.one pair.has_one;
          has_other = wider pair.other pair.has_other;
          apart = pair.apart;
          one_from = pair.one_from;
          other_from = pair.other_from;
        })
      ]

  -- the new literal and one of before
  joined : (low : ℕ) → low ≤ old.0 → low ≤ level → HasOneFrom assigned (take n lits) old.0 → HasTwoFrom assigned (take (n + 1) lits) low
  joined low le_old le one =
      elim one [
        | inl none ↦ inl (omega (arith, none, le_old))
        | inr (l, has, l_from) ↦ inr (record {
          one = l;
          other = here;
          has_one = wider l has;
          has_other = has_here;
          apart = apart l has;
          one_from = from_lower assigned old.0 low l le_old l_from;
          other_from = from_lower assigned level low here le from;
        })
      ]

  -- no two are of a level above the second highest one
  two_most : AreTwoHighest assigned (take n lits) next old → (low : ℕ) → low ≤ next → (pair : AreTwoFrom assigned (take (n + 1) lits) low)
      → Contains (take n lits) pair.one ⊎ (here ≡ pair.one) → Contains (take n lits) pair.other ⊎ (here ≡ pair.other) → low ≤ new.1
  two_most was low le pair (inl one) (inl other) =
      let both : AreTwoFrom assigned (take n lits) low = record {
        one = pair.one;
        other = pair.other;
        has_one = one;
        has_other = other;
        apart = pair.apart;
        one_from = pair.one_from;
        other_from = pair.other_from;
      } in
      let a : low ≤ old.1 = was.two_most low le both in
      omega (arith, a, second)
  two_most was low le pair (inl one) (inr other) =
      let a : low ≤ old.0 = was.one_most low pair.one le one pair.one_from in
      let b : low ≤ level = here_most low pair.other le other pair.other_from in
      omega (arith, a, b, second)
  two_most was low le pair (inr one) (inl other) =
      let a : low ≤ old.0 = was.one_most low pair.other le other pair.other_from in
      let b : low ≤ level = here_most low pair.one le one pair.one_from in
      omega (arith, a, b, second)
  two_most was low le pair (inr one) (inr other) = absurd (pair.apart (ap (λ (l : Lit). l.var) (sym one ∙ other)))

  pub two_more : AreTwoHighest assigned (take n lits) next old → AreTwoHighest assigned (take (n + 1) lits) next new
  two_more was =
      record {
        one = elim (cases_lt old.0 level) [
          | inl up ↦ let is : level ≡ new.0 = omega (arith, up, first) in subst (HasOneFrom assigned (take (n + 1) lits)) is (inr (here, has_here, from))
          | inr down ↦
              let is : old.0 ≡ new.0 = omega (arith, down, first) in
              subst (HasOneFrom assigned (take (n + 1) lits)) is (elim was.one [ inl none ↦ inl none | inr (l, has, l_from) ↦ inr (l, wider l has, l_from) ])
        ];
        two = elim (cases_lt old.1 (min old.0 level)) [
          | inl up ↦ let is : min old.0 level ≡ new.1 = omega (arith, up, second) in subst (HasTwoFrom assigned (take (n + 1) lits)) is (joined (min old.0 level) (omega arith) (omega arith) was.one)
          | inr down ↦ let is : old.1 ≡ new.1 = omega (arith, down, second) in subst (HasTwoFrom assigned (take (n + 1) lits)) is (still_two was.two)
        ];
        within = omega (arith, was.within, within, second);
        one_most = λ low l le has l_from. elim (here_or_before l has) [
          | inl before ↦ let a : low ≤ old.0 = was.one_most low l le before l_from in omega (arith, a, first)
          | inr same ↦ let a : low ≤ level = here_most low l le same l_from in omega (arith, a, first)
        ];
        two_most = λ low le pair. two_most was low le pair (here_or_before pair.one pair.has_one) (here_or_before pair.other pair.has_other);
      }

-- the level below the second highest one
below_two : (assigned : List Assigned) (lits : List Lit) (high level : ℕ) → level ≡ high - 1 → HasTwoFrom assigned lits high → IsBelowTwo assigned lits level
below_two assigned lits high level is two =
    elim two [
      | inl none ↦ inl (omega (arith, none, is))
      | inr pair ↦ elim (cases_lt 0 high) [
        | inl some ↦ let same : high ≡ level + 1 = omega (arith, some, is) in inr (subst (AreTwoFrom assigned lits) same pair)
        | inr none ↦ inl (omega (arith, none, is))
      ]
    ]

pub highest_below_two : (assigned : List Assigned) (lits : List Lit) (next : ℕ) (highest : ℕ × ℕ) (level : ℕ) → next ≡ level_of assigned + 1 → level ≡ highest.1 - 1 → AreTwoHighest assigned lits next highest → IsHighestBelowTwo assigned lits level
highest_below_two assigned lits next highest level above is most =
    record {
      below_two = below_two assigned lits highest.1 level is most.two;
      within = omega (arith, above, is, most.within);
      highest = λ other low two. elim two [
        | inl none ↦ omega (arith, none)
        | inr pair ↦ let up : other + 1 ≤ highest.1 = most.two_most (other + 1) (omega (arith, above, low)) pair in omega (arith, up, is)
      ];
    }
