-- What is known at a slot, and what it is to watch another literal there.
use Rattle.std.proofs.Common.{◌≡◌, ◌<◌, ◌≤◌, ◌+◌, ◌-◌, ◌*◌, ◌/◌, ◌%◌, [], ◌⊎◌, ℕ, Bool, false, Some, List, length, get_or, set, All, arith, sym, ◌∙◌, ap, inl, inr, subst, eqb, get_or-set_other, get_or-set_same}
use Rattle.std.proofs.lemmas.Bool.{cases_eq}
use Rattle.std.proofs.lemmas.List.{get_or-map, length-map}
use Rattle.std.proofs.lemmas.List.Elements.{Contains-get_or}
use Rattle.std.specs.List.{Contains, remove}
use Rattle.cnf_core.specs.declared.literal.Lit.{Lit}
use Rattle.cnf_core.specs.Literal.{HasVarsUpTo}
use Rattle.unit_propagation.specs.Clauses.Codes.{literal_of, literals_of}
use Rattle.unit_propagation.specs.Watches.WatchState.{WatchState, IsListed, list_at, moved}
use Rattle.unit_propagation.specs.Assignments.AssignmentState.{AssignmentState}
use Rattle.unit_propagation.specs.Propagation.Rule.{twin, watched, IsWatching, AreWatched}
use Rattle.unit_propagation.specs.Propagation.Walk.{IsWalking, IsAtSlot}
use Rattle.std.proofs.lemmas.Option.{get_or_from_slice_get}
use Rattle.std.specs.List.{slice_get}
use Rattle.unit_propagation.proofs.Watches.Moves.{moved_lists}
use Rattle.std.proofs.lemmas.Bool.{eqb-true, eqb-false}
use Rattle.std.proofs.lemmas.Bool.Decides.{eqb_tells}

-- two numbers of one literal are one
pub literal_of-same : (a b : ℕ) → literal_of a ≡ literal_of b → a ≡ b
literal_of-same a b e =
    let v : a / 2 ≡ b / 2 = ap (λ (l : Lit). l.var) e in
    let s : eqb (a % 2) 1 ≡ eqb (b % 2) 1 = ap (λ (l : Lit). l.positive) e in
    elim (eqb_tells (a % 2) 1) [
      | inl (t, one) ↦ let one' : b % 2 ≡ 1 = eqb-true (b % 2) 1 (sym s ∙ t) in omega (arith, v, one, one')
      | inr (f, not_one) ↦ let not_one' : b % 2 ≡ 1 → ⊥ = eqb-false (b % 2) 1 (sym s ∙ f) in omega (arith, v, not_one, not_one')
    ]

pub twin_is : (x : ℕ) → ((x % 2 ≡ 0) × (twin x ≡ x + 1)) ⊎ ((x % 2 ≡ 1) × (twin x ≡ x - 1))
twin_is x =
    elim (eqb_tells (x % 2) 0) [
      | inl (t, same) ↦ inl (same, rw t)
      | inr (f, differ) ↦ inr (omega (arith, differ), rw f)
    ]

-- the slots of a clause are those of two of its literals
pub pair_at : (clauses : List (List Lit)) (codes : List ℕ) (x : ℕ) → IsWatching clauses codes (x / 2) → Contains (get_or clauses (x / 2) []) (watched codes x) × Contains (get_or clauses (x / 2) []) (watched codes (twin x)) × (watched codes x ≡ watched codes (twin x) → ⊥)
pair_at clauses codes x both =
    elim (twin_is x) [
      | inl (even, is) ↦
          let here : 2 * (x / 2) ≡ x = omega (arith, even) in
          let there : 2 * (x / 2) + 1 ≡ twin x = omega (arith, even, is) in (
            subst (λ (k : ℕ). Contains (get_or clauses (x / 2) []) (watched codes k)) here both.first,
            subst (λ (k : ℕ). Contains (get_or clauses (x / 2) []) (watched codes k)) there both.second,
            λ e. both.differ (ap (watched codes) here ∙ (e ∙ ap (watched codes) (sym there))),
          )
      | inr (odd, is) ↦
          let here : 2 * (x / 2) + 1 ≡ x = omega (arith, odd) in
          let there : 2 * (x / 2) ≡ twin x = omega (arith, odd, is) in (
            subst (λ (k : ℕ). Contains (get_or clauses (x / 2) []) (watched codes k)) here both.second,
            subst (λ (k : ℕ). Contains (get_or clauses (x / 2) []) (watched codes k)) there both.first,
            λ e. both.differ (ap (watched codes) there ∙ (sym e ∙ ap (watched codes) (sym here))),
          )
    ]

-- a slot watches another literal of its clause
module _ (clauses : List (List Lit)) (codes : List ℕ) (flags : List Bool) (x code : ℕ) (in_codes : x < length codes) where
  other_slot : (y : ℕ) → (y ≡ x → ⊥) → watched (set codes x code) y ≡ watched codes y
  other_slot y ne = ap literal_of (get_or-set_other codes x y code 0 ne)

  this_slot : watched (set codes x code) x ≡ literal_of code
  this_slot = ap literal_of (get_or-set_same codes x code 0 in_codes)

  pub watching_bring : IsWatching clauses codes (x / 2) → Contains (get_or clauses (x / 2) []) (literal_of code) → (literal_of code ≡ watched codes (twin x) → ⊥) → IsWatching clauses (set codes x code) (x / 2)
  watching_bring both member apart =
      elim (twin_is x) [
        | inl (even, is) ↦
            let here : 2 * (x / 2) ≡ x = omega (arith, even) in
            let there : 2 * (x / 2) + 1 ≡ twin x = omega (arith, even, is) in
            let ne : 2 * (x / 2) + 1 ≡ x → ⊥ = λ e. absurd (omega (arith, even, e)) in
            let first : watched (set codes x code) (2 * (x / 2)) ≡ literal_of code = ap (watched (set codes x code)) here ∙ this_slot in
            let second : watched (set codes x code) (2 * (x / 2) + 1) ≡ watched codes (2 * (x / 2) + 1) = other_slot (2 * (x / 2) + 1) ne in
            record {
              first = subst (Contains (get_or clauses (x / 2) [])) (sym first) member;
              second = subst (Contains (get_or clauses (x / 2) [])) (sym second) both.second;
              differ = λ e. apart (sym first ∙ (e ∙ (second ∙ ap (watched codes) there)));
            }
        | inr (odd, is) ↦
            let here : 2 * (x / 2) + 1 ≡ x = omega (arith, odd) in
            let there : 2 * (x / 2) ≡ twin x = omega (arith, odd, is) in
            let ne : 2 * (x / 2) ≡ x → ⊥ = λ e. absurd (omega (arith, odd, e)) in
            let second : watched (set codes x code) (2 * (x / 2) + 1) ≡ literal_of code = ap (watched (set codes x code)) here ∙ this_slot in
            let first : watched (set codes x code) (2 * (x / 2)) ≡ watched codes (2 * (x / 2)) = other_slot (2 * (x / 2)) ne in
            record {
              first = subst (Contains (get_or clauses (x / 2) [])) (sym first) both.first;
              second = subst (Contains (get_or clauses (x / 2) [])) (sym second) member;
              differ = λ e. apart (sym second ∙ (sym e ∙ (first ∙ ap (watched codes) there)));
            }
      ]

  pub watched_bring : AreWatched clauses codes flags → IsWatching clauses (set codes x code) (x / 2) → AreWatched clauses (set codes x code) flags
  watched_bring are here n h =
      elim (cases_eq n (x / 2)) [
        | inl e ↦ inr (subst (IsWatching clauses (set codes x code)) (sym e) here)
        | inr ne ↦
            let even : 2 * n ≡ x → ⊥ = λ e. absurd (omega (arith, ne, e)) in
            let odd : 2 * n + 1 ≡ x → ⊥ = λ e. absurd (omega (arith, ne, e)) in
            elim (are n h) [
              | inl s ↦ inl (record {
                flagged = s.flagged;
                first = let c : get_or (set codes x code) (2 * n) 0 ≡ get_or codes (2 * n) 0 = get_or-set_other codes x (2 * n) code 0 even in omega (arith, c, s.first);
                second = let c : get_or (set codes x code) (2 * n + 1) 0 ≡ get_or codes (2 * n + 1) 0 = get_or-set_other codes x (2 * n + 1) code 0 odd in omega (arith, c, s.second);
              })
              | inr both ↦ inr (record {
                first = subst (Contains (get_or clauses n [])) (sym (other_slot (2 * n) even)) both.first;
                second = subst (Contains (get_or clauses n [])) (sym (other_slot (2 * n + 1) odd)) both.second;
                differ = λ e. both.differ (sym (other_slot (2 * n) even) ∙ (e ∙ other_slot (2 * n + 1) odd));
              })
            ]
      ]

-- the clause of a slot that watches a variable is one of two literals or more, and they are its own
pub slot_watching : (clauses : List (List Lit)) (w : WatchState) (now : AssignmentState) (flags : List Bool) (propagated gone at x : ℕ) → IsWalking clauses w now flags propagated gone at → IsListed w → at < length (list_at w.lists gone) → gone < length w.lists → 2 ≤ gone → get_or (list_at w.lists gone) at 0 ≡ x →
    (x < length w.codes) × (get_or w.codes x 0 ≡ gone) × (x / 2 < length clauses) × IsWatching clauses w.codes (x / 2)
slot_watching clauses w now flags propagated gone at x was listed h in_lists low is =
    let own = listed.own gone x in_lists (subst (Contains (list_at w.lists gone)) is (Contains-get_or (list_at w.lists gone) at 0 h)) in
    let n : x / 2 < length clauses = omega (arith, own.0, was.long) in (
      own.0,
      own.1,
      n,
      elim (was.watching (x / 2) n) [
        | inr both ↦ both
        | inl s ↦ elim (cases_eq (2 * (x / 2)) x) [
          | inl e ↦ let c : get_or w.codes (2 * (x / 2)) 0 ≡ gone = ap (λ (k : ℕ). get_or w.codes k 0) e ∙ own.1 in absurd (omega (arith, c, s.first))
          | inr ne ↦
              let e : 2 * (x / 2) + 1 ≡ x = omega (arith, ne) in
              let c : get_or w.codes (2 * (x / 2) + 1) 0 ≡ gone = ap (λ (k : ℕ). get_or w.codes k 0) e ∙ own.1 in absurd (omega (arith, c, s.second))
        ]
      ],
    )

-- what is known at a slot: its number, its code, its clause and that the clause has it
pub at_slot : (clauses : List (List Lit)) (w : WatchState) (now : AssignmentState) (flags : List Bool) (propagated gone at slot : ℕ) → IsAtSlot clauses w now flags propagated gone at slot → IsListed w → (slot < length w.codes) × (get_or w.codes slot 0 ≡ gone) × (slot / 2 < length clauses) × IsWatching clauses w.codes (slot / 2)
at_slot clauses w now flags propagated gone at slot a listed = slot_watching clauses w now flags propagated gone at slot a.walking listed a.here a.gone_in a.gone_low a.is

pub twin_in : (clauses : List (List Lit)) (w : WatchState) (now : AssignmentState) (flags : List Bool) (propagated gone at slot : ℕ) → IsAtSlot clauses w now flags propagated gone at slot → IsListed w → (twin slot < length w.codes) × (get_or w.codes (twin slot) 0 / 2 ≤ now.vars)
twin_in clauses w now flags propagated gone at slot a listed =
    let s = at_slot clauses w now flags propagated gone at slot a listed in
    let in' : twin slot < length w.codes = elim (twin_is slot) [ inl (even, is) ↦ omega (arith, even, is, s.0, a.walking.long, s.2) | inr (odd, is) ↦ omega (arith, odd, is, s.0) ] in
    let own = listed.all (twin slot) in' in
    (in', omega (arith, own.0, a.walking.lists))

pub slot_there : (w : WatchState) (gone at slot : ℕ) → IsListed w → gone < length w.lists → at < length (list_at w.lists gone) → get_or (list_at w.lists gone) at 0 ≡ slot → slot < length w.codes
slot_there w gone at slot listed in' h is = (listed.own gone slot in' (subst (Contains (list_at w.lists gone)) is (Contains-get_or (list_at w.lists gone) at 0 h))).0

-- the numbers of a clause
pub clause_is : (clauses : List (List Lit)) (codes : List ℕ) (n : ℕ) → slice_get clauses ((n + 1) - 1) ≡ Some (literals_of codes) → get_or clauses n [] ≡ literals_of codes
clause_is clauses codes n is =
    let back : (n + 1) - 1 ≡ n = omega arith in
    get_or_from_slice_get clauses n (literals_of codes) [] (ap (slice_get clauses) (sym back) ∙ is)

pub codes_low : (clauses : List (List Lit)) (codes : List ℕ) (n vars : ℕ) → All (HasVarsUpTo vars) clauses → n < length clauses → slice_get clauses ((n + 1) - 1) ≡ Some (literals_of codes) → All (λ c. c / 2 ≤ vars) codes
codes_low clauses codes n vars within in' is k d h =
    let low : HasVarsUpTo vars (literals_of codes) = subst (HasVarsUpTo vars) (clause_is clauses codes n is) (within n [] in') in
    let e : Lit = record { var = 0; positive = false } in
    let long : length (literals_of codes) ≡ length codes = length-map codes literal_of in
    let here : (get_or (literals_of codes) k e).var ≤ vars = low k e (omega (arith, long)) in
    let read : (get_or (literals_of codes) k e).var ≡ get_or codes k d / 2 = ap (λ (l : Lit). l.var) (get_or-map literal_of codes k d e h) in
    omega (arith, here, read)

pub list_moved : (w after : WatchState) (gone at x code : ℕ) → after ≡ record { codes = set w.codes x code; lists = moved w.lists gone at x code } → gone < length w.lists → code < length w.lists → (gone ≡ code → ⊥) → list_at after.lists gone ≡ remove (list_at w.lists gone) at
list_moved w after gone at x code is in' code_in ne = ap (λ (v : WatchState). list_at v.lists gone) is ∙ (moved_lists w.lists gone at x code in' code_in ne).at_from
