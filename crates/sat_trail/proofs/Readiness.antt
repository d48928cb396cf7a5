-- What keeps the rule of watched literals between the walks.
use Rattle.std.proofs.Common.{◌≡◌, ◌<◌, ◌+◌, ◌*◌, ◌/◌, ◌++◌, [], ◌∷◌, ◌⊎◌, ℕ, Bool, true, false, List, length, get_or, set, arith, sym, ◌∙◌, ap, inl, inr, refl, subst, length-append, length-set, get_or-set_other}
use Rattle.std.proofs.lemmas.Bool.{cases_eq, cases_lt}
use Rattle.std.proofs.lemmas.List.{get_or_append_left, get_or_push}
use Rattle.std.proofs.lemmas.List.Elements.{All-push}
use Rattle.std.specs.List.{Contains}
use Rattle.cnf_core.specs.declared.literal.Lit.{Lit}
use Rattle.cnf_core.specs.Literal.{negation_of, HasVarsUpTo}
use Rattle.unit_propagation.specs.Clauses.Codes.{literal_of}
use Rattle.unit_propagation.specs.Watches.WatchState.{WatchState, with_slot}
use Rattle.unit_propagation.specs.declared.assignment_trail.assigned.Assigned.{Assigned}
use Rattle.unit_propagation.specs.Assignments.AssignmentState.{AssignmentState}
use Rattle.unit_propagation.specs.Assignments.Trail.{IsPlaced}
use Rattle.unit_propagation.proofs.Assignments.Trails.{IsTrail-push, IsTrail-clause}
use Rattle.unit_propagation.specs.Propagation.Rule.{twin, watched, IsMarked, IsCovered, IsRightAt, IsShort, IsWatching}
use Rattle.unit_propagation.specs.Propagation.Walk.{IsReady}
use Rattle.unit_propagation.proofs.Propagation.Keeping.{right_push, right_mark, marked_more}
use Rattle.unit_propagation.proofs.Propagation.Slots.{twin_is}
use Rattle.sat_trail.specs.Settling.{NeedsNoMark}

-- one more literal is true
pub ready_push : (clauses : List (List Lit)) (w : WatchState) (vars : ℕ) (assigned : List Assigned) (flags : List Bool) (propagated : ℕ) (a : Assigned) → IsReady clauses w (record { vars = vars; assigned = assigned }) flags propagated → IsPlaced clauses assigned a → IsReady clauses w (record { vars = vars; assigned = assigned ++ a ∷ [] }) flags propagated
ready_push clauses w vars assigned flags propagated a was placed =
    record {
      trail = IsTrail-push clauses assigned a was.trail placed;
      within = was.within;
      long = was.long;
      flags_long = was.flags_long;
      lists = was.lists;
      watching = was.watching;
      propagated_in = omega (arith, was.propagated_in, length-append assigned (a ∷ []));
      right = λ i x h in'. right_push w.codes assigned flags a i x (omega (arith, h, was.propagated_in)) (was.right i x h in');
    }

-- one more clause is marked
pub ready_mark : (clauses : List (List Lit)) (w : WatchState) (now : AssignmentState) (flags : List Bool) (propagated n : ℕ) → IsReady clauses w now flags propagated → IsReady clauses w now (set flags n true) propagated
ready_mark clauses w now flags propagated n was =
    record {
      trail = was.trail;
      within = was.within;
      long = was.long;
      lists = was.lists;
      propagated_in = was.propagated_in;
      flags_long = length-set flags n true ∙ was.flags_long;
      watching = λ m h. elim (was.watching m h) [
        | inl s ↦ inl (record { flagged = marked_more flags n m s.flagged; first = s.first; second = s.second })
        | inr both ↦ inr both
      ];
      right = λ i x h in'. right_mark w.codes now.assigned flags n i x (was.right i x h in');
    }

-- a clause of which the rule holds without its mark is marked no more
settled_covers : (codes : List ℕ) (assigned : List Assigned) (n x i : ℕ) → NeedsNoMark codes assigned n → x / 2 ≡ n → i < length assigned → ((d : Assigned) → negation_of (get_or assigned i d).lit ≡ watched codes x) → IsCovered codes assigned x i
settled_covers codes assigned n x i settled of in' is =
    elim (twin_is x) [
      | inl (even, t) ↦
          let here : x ≡ 2 * n = omega (arith, of, even) in
          let there : 2 * n + 1 ≡ twin x = omega (arith, of, even, t) in
          let r = settled.first i in' (λ d. is d ∙ ap (watched codes) here) in
          record { place = r.0; in_range = r.1; true_there = λ d. r.2 d ∙ ap (watched codes) there; low = r.3 }
      | inr (odd, t) ↦
          let here : x ≡ 2 * n + 1 = omega (arith, of, odd) in
          let there : 2 * n ≡ twin x = omega (arith, of, odd, t) in
          let r = settled.second i in' (λ d. is d ∙ ap (watched codes) here) in
          record { place = r.0; in_range = r.1; true_there = λ d. r.2 d ∙ ap (watched codes) there; low = r.3 }
    ]

pub ready_unmark : (clauses : List (List Lit)) (w : WatchState) (now : AssignmentState) (flags : List Bool) (propagated n : ℕ) → NeedsNoMark w.codes now.assigned n → IsReady clauses w now flags propagated → IsReady clauses w now (set flags n false) propagated
ready_unmark clauses w now flags propagated n settled was =
    record {
      trail = was.trail;
      within = was.within;
      long = was.long;
      lists = was.lists;
      propagated_in = was.propagated_in;
      flags_long = length-set flags n false ∙ was.flags_long;
      watching = λ m h. elim (was.watching m h) [
        | inl s ↦ elim (cases_eq m n) [
          | inl e ↦ let c : get_or w.codes (2 * m) 0 ≡ get_or w.codes (2 * n) 0 = ap (λ (k : ℕ). get_or w.codes (2 * k) 0) e in absurd (omega (arith, c, s.first, settled.first_is))
          | inr ne ↦ inl (record { flagged = get_or-set_other flags n m false false ne ∙ s.flagged; first = s.first; second = s.second })
        ]
        | inr both ↦ inr both
      ];
      right = λ i x h in' is. elim (was.right i x h in' is) [
        | inr covered ↦ inr covered
        | inl m ↦ elim (cases_eq (x / 2) n) [
          | inl e ↦ inr (settled_covers w.codes now.assigned n x i settled e (omega (arith, h, was.propagated_in)) is)
          | inr ne ↦ inl (get_or-set_other flags n (x / 2) false false ne ∙ m)
        ]
      ];
    }

-- one clause more: its slots watch two of its literals, or it is short and marked; and it is marked, or nothing is propagated
module _ (clauses : List (List Lit)) (w : WatchState) (now : AssignmentState) (flags news : List Bool) (propagated one other : ℕ) (clause : List Lit) (was : IsReady clauses w now flags propagated) (stays : (m : ℕ) → IsMarked flags m → IsMarked news m) where
  abbrev n : ℕ
  n = length clauses

  abbrev more : List (List Lit)
  more = clauses ++ clause ∷ []

  abbrev codes : List ℕ
  codes = (w.codes ++ one ∷ []) ++ other ∷ []

  wide : length codes ≡ length w.codes + 2
  wide = omega (arith, length-append (w.codes ++ one ∷ []) (other ∷ []), length-append w.codes (one ∷ []))

  old_code : (x : ℕ) → x < length w.codes → get_or codes x 0 ≡ get_or w.codes x 0
  old_code x h = get_or_append_left (w.codes ++ one ∷ []) (other ∷ []) 0 x (omega (arith, h, length-append w.codes (one ∷ []))) ∙ get_or_append_left w.codes (one ∷ []) 0 x h

  old_watched : (x : ℕ) → x < length w.codes → watched codes x ≡ watched w.codes x
  old_watched x h = ap literal_of (old_code x h)

  first_code : get_or codes (2 * n) 0 ≡ one
  first_code =
      get_or_append_left (w.codes ++ one ∷ []) (other ∷ []) 0 (2 * n) (omega (arith, was.long, length-append w.codes (one ∷ []))) ∙ get_or_push w.codes one 0 (2 * n) was.long

  second_code : get_or codes (2 * n + 1) 0 ≡ other
  second_code = get_or_push (w.codes ++ one ∷ []) other 0 (2 * n + 1) (omega (arith, was.long, length-append w.codes (one ∷ [])))

  old_clause : (m : ℕ) → m < n → get_or more m [] ≡ get_or clauses m []
  old_clause m h = get_or_append_left clauses (clause ∷ []) [] m h

  new_clause : get_or more n [] ≡ clause
  new_clause = get_or_push clauses clause [] n refl

  old_watching : (m : ℕ) → m < n → IsShort codes news m ⊎ IsWatching more codes m
  old_watching m h =
      let low : 2 * m < length w.codes = omega (arith, h, was.long) in
      let high : 2 * m + 1 < length w.codes = omega (arith, h, was.long) in
      elim (was.watching m h) [
        | inl s ↦ inl (record { flagged = stays m s.flagged; first = omega (arith, old_code (2 * m) low, s.first); second = omega (arith, old_code (2 * m + 1) high, s.second) })
        | inr both ↦ inr (record {
          first = subst (λ (c : List Lit). Contains c (watched codes (2 * m))) (sym (old_clause m h)) (subst (Contains (get_or clauses m [])) (sym (old_watched (2 * m) low)) both.first);
          second = subst (λ (c : List Lit). Contains c (watched codes (2 * m + 1))) (sym (old_clause m h)) (subst (Contains (get_or clauses m [])) (sym (old_watched (2 * m + 1) high)) both.second);
          differ = λ e. both.differ (sym (old_watched (2 * m) low) ∙ (e ∙ old_watched (2 * m + 1) high));
        })
      ]

  old_right : (i x : ℕ) → i < propagated → x < length w.codes → IsRightAt codes now.assigned news i x
  old_right i x h in' is =
      let there : twin x < length w.codes = elim (twin_is x) [ inl (even, t) ↦ omega (arith, even, t, in', was.long) | inr (odd, t) ↦ omega (arith, odd, t, in') ] in
      elim (was.right i x h in' (λ d. is d ∙ old_watched x in')) [
        | inl m ↦ inl (stays (x / 2) m)
        | inr c ↦ inr (record { place = c.place; in_range = c.in_range; true_there = λ d. c.true_there d ∙ sym (old_watched (twin x) there); low = c.low })
      ]

  module _ (long : length news ≡ length flags + 1) (vars : HasVarsUpTo now.vars clause) (new : (IsMarked news n × (one < 2) × (other < 2)) ⊎ (Contains clause (literal_of one) × Contains clause (literal_of other) × (literal_of one ≡ literal_of other → ⊥))) (rule : IsMarked news n ⊎ (propagated ≡ 0)) where
    new_watching : IsShort codes news n ⊎ IsWatching more codes n
    new_watching =
        elim new [
          | inl s ↦ inl (record { flagged = s.0; first = omega (arith, first_code, s.1); second = omega (arith, second_code, s.2) })
          | inr both ↦ inr (record {
            first = subst (λ (c : List Lit). Contains c (watched codes (2 * n))) (sym new_clause) (subst (Contains clause) (sym (ap literal_of first_code)) both.0);
            second = subst (λ (c : List Lit). Contains c (watched codes (2 * n + 1))) (sym new_clause) (subst (Contains clause) (sym (ap literal_of second_code)) both.1);
            differ = λ e. both.2 (sym (ap literal_of first_code) ∙ (e ∙ ap literal_of second_code));
          })
        ]

    pub ready_append : IsReady more (with_slot (with_slot w one) other) now news propagated
    ready_append =
        record {
          trail = IsTrail-clause clauses clause now.assigned was.trail;
          within = All-push (HasVarsUpTo now.vars) clauses clause was.within vars;
          long = omega (arith, wide, was.long, length-append clauses (clause ∷ []));
          flags_long = omega (arith, long, was.flags_long, length-append clauses (clause ∷ []));
          lists = length-set _ _ _ ∙ (length-set _ _ _ ∙ was.lists);
          watching = λ m h. elim (cases_lt m n) [
            | inl lt ↦ old_watching m lt
            | inr ge ↦ let e : m ≡ n = omega (arith, h, length-append clauses (clause ∷ [])) in subst (λ (k : ℕ). IsShort codes news k ⊎ IsWatching more codes k) (sym e) new_watching
          ];
          propagated_in = was.propagated_in;
          right = λ i x h in'. elim (cases_lt x (length w.codes)) [
            | inl lt ↦ old_right i x h lt
            | inr ge ↦ λ is.
                let e : x / 2 ≡ n = omega (arith, in', wide, was.long) in
                elim rule [ inl m ↦ inl (subst (IsMarked news) (sym e) m) | inr z ↦ absurd (omega (arith, h, z)) ]
          ];
        }
