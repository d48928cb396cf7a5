-- What each step of a walk keeps.
use Rattle.std.proofs.Common.{◌≡◌, ◌<◌, ◌≤◌, ◌+◌, ◌-◌, ◌/◌, ◌++◌, [], ◌∷◌, ℕ, Bool, true, false, Option, Some, List, length, get_or, set, All, arith, sym, ◌∙◌, ap, inl, inr, refl, subst, cond, below_more, length-append, length-set, get_or-set_same}
use Rattle.std.proofs.lemmas.List.{get_or_append_left, get_or_push}
use Rattle.std.proofs.lemmas.List.Edits.{get_or-remove_below, length-remove}
use Rattle.std.proofs.lemmas.List.Elements.{All-push, Contains-get_or, All-contains}
use Rattle.std.specs.List.{Contains, remove}
use Rattle.cnf_core.specs.declared.literal.Lit.{Lit}
use Rattle.cnf_core.specs.Literal.{negation_of}
use Rattle.refutation_check.specs.Assumed.{IsOpen}
use Rattle.unit_propagation.specs.Clauses.Codes.{literal_of}
use Rattle.unit_propagation.specs.Watches.WatchState.{WatchState, IsListed, list_at, moved}
use Rattle.unit_propagation.specs.declared.assignment_trail.assigned.Assigned.{Assigned}
use Rattle.unit_propagation.specs.Assignments.Trail.{falses_of, level_of, IsPlaced, IsVarUpTo}
use Rattle.unit_propagation.proofs.Assignments.Trails.{IsTrail-push}
use Rattle.unit_propagation.specs.Assignments.AssignmentState.{AssignmentState, IsConsistent}
use Rattle.unit_propagation.specs.Propagation.Rule.{twin, watched, IsMarked, IsRightAt}
use Rattle.unit_propagation.specs.Propagation.Walk.{IsWalking, IsAtSlot, IsFalseBut}
use Rattle.std.proofs.lemmas.Option.{slice_get-get_or}
use Rattle.std.specs.List.{slice_get}
use Rattle.cnf_core.specs.Literal.{IsClause, IsVariable}
use Rattle.refutation_check.proofs.Sights.{lit_equal, not_same}
use Rattle.refutation_check.specs.Chain.{Refutes}
use Rattle.unit_propagation.proofs.Propagation.Keeping.{right_push, right_mark, right_bring, marked_more}
use Rattle.unit_propagation.proofs.Watches.Moves.{moved_lists}
use Rattle.unit_propagation.proofs.Assignments.Trails.{false_from, from_falses}
use Rattle.refutation_check.proofs.Entailment.{lit_equal_or_not}
use Rattle.unit_propagation.proofs.Propagation.Slots.{pair_at, slot_watching, at_slot, watching_bring, watched_bring}

abbrev pub now_of : ℕ → List Assigned → AssignmentState
now_of vars assigned = record { vars = vars; assigned = assigned }

-- the consequence of one more slot is propagated
pub walking_on : (clauses : List (List Lit)) (w : WatchState) (now : AssignmentState) (flags : List Bool) (propagated gone at : ℕ) → IsWalking clauses w now flags propagated gone at → at < length (list_at w.lists gone) → IsRightAt w.codes now.assigned flags propagated (get_or (list_at w.lists gone) at 0) → IsWalking clauses w now flags propagated gone (at + 1)
walking_on clauses w now flags propagated gone at was h here =
    record {
      trail = was.trail;
      in_range = was.in_range;
      within = was.within;
      long = was.long;
      flags_long = was.flags_long;
      lists = was.lists;
      watching = was.watching;
      propagated_in = was.propagated_in;
      gone_is = was.gone_is;
      right = was.right;
      at_in = omega (arith, h);
      done = below_more (λ (p : ℕ). IsRightAt w.codes now.assigned flags propagated (get_or (list_at w.lists gone) p 0)) at was.done here;
    }

-- one more literal is true
pub walking_push : (clauses : List (List Lit)) (w : WatchState) (vars : ℕ) (assigned : List Assigned) (flags : List Bool) (propagated gone at : ℕ) (a : Assigned) → IsWalking clauses w (now_of vars assigned) flags propagated gone at → IsPlaced clauses assigned a → IsVarUpTo vars a → IsWalking clauses w (now_of vars (assigned ++ a ∷ [])) flags propagated gone at
walking_push clauses w vars assigned flags propagated gone at a was placed low =
    record {
      trail = IsTrail-push clauses assigned a was.trail placed;
      in_range = All-push (IsVarUpTo vars) assigned a was.in_range low;
      within = was.within;
      long = was.long;
      flags_long = was.flags_long;
      lists = was.lists;
      watching = was.watching;
      propagated_in = omega (arith, was.propagated_in, length-append assigned (a ∷ []));
      gone_is = λ d. ap (λ (b : Assigned). negation_of b.lit) (get_or_append_left assigned (a ∷ []) d propagated was.propagated_in) ∙ was.gone_is d;
      right = λ i x h in'. right_push w.codes assigned flags a i x (omega (arith, h, was.propagated_in)) (was.right i x h in');
      at_in = was.at_in;
      done = λ p h. right_push w.codes assigned flags a propagated (get_or (list_at w.lists gone) p 0) was.propagated_in (was.done p h);
    }

-- one more clause is marked
pub walking_mark : (clauses : List (List Lit)) (w : WatchState) (now : AssignmentState) (flags : List Bool) (propagated gone at n : ℕ) → IsWalking clauses w now flags propagated gone at → IsWalking clauses w now (set flags n true) propagated gone at
walking_mark clauses w now flags propagated gone at n was =
    record {
      trail = was.trail;
      in_range = was.in_range;
      within = was.within;
      long = was.long;
      lists = was.lists;
      propagated_in = was.propagated_in;
      gone_is = was.gone_is;
      at_in = was.at_in;
      flags_long = length-set flags n true ∙ was.flags_long;
      watching = λ m h. elim (was.watching m h) [
        | inl s ↦ inl (record { flagged = marked_more flags n m s.flagged; first = s.first; second = s.second })
        | inr both ↦ inr both
      ];
      right = λ i x h in'. right_mark w.codes now.assigned flags n i x (was.right i x h in');
      done = λ p h. right_mark w.codes now.assigned flags n propagated (get_or (list_at w.lists gone) p 0) (was.done p h);
    }

-- a slot that is marked, or whose other literal is true at no higher level, is right
pub right_marked : (codes : List ℕ) (assigned : List Assigned) (flags : List Bool) (i x n : ℕ) → x / 2 ≡ n → n < length flags → IsRightAt codes assigned (set flags n true) i x
right_marked codes assigned flags i x n of in' is = inl (subst (IsMarked (set flags n true)) (sym of) (get_or-set_same flags n true false in'))

pub right_true : (codes : List ℕ) (assigned : List Assigned) (flags : List Bool) (i x j : ℕ) → j < length assigned → ((d : Assigned) → (get_or assigned j d).lit ≡ watched codes (twin x)) → ((d : Assigned) → (get_or assigned j d).level ≤ (get_or assigned i d).level) → IsRightAt codes assigned flags i x
right_true codes assigned flags i x j h is low _ = inr (record { place = j; in_range = h; true_there = is; low = low })

-- a slot is brought to the list of another literal of its clause, which is not false
pub walking_bring : (clauses : List (List Lit)) (w after : WatchState) (now : AssignmentState) (flags : List Bool) (propagated gone at x code : ℕ) → IsConsistent (falses_of now.assigned) → IsWalking clauses w now flags propagated gone at → IsListed w → at < length (list_at w.lists gone) → gone < length w.lists → 2 ≤ gone → get_or (list_at w.lists gone) at 0 ≡ x →
    Contains (get_or clauses (x / 2) []) (literal_of code) → (literal_of code ≡ watched w.codes (twin x) → ⊥) → (Contains (falses_of now.assigned) (literal_of code) → ⊥) → code / 2 ≤ now.vars →
    after ≡ record { codes = set w.codes x code; lists = moved w.lists gone at x code } → IsWalking clauses after now flags propagated gone at
walking_bring clauses w after now flags propagated gone at x code consistent was listed h in_lists low is member differ free code_low after_is =
    let slot = slot_watching clauses w now flags propagated gone at x was listed h in_lists low is in
    let gone_false : Contains (falses_of now.assigned) (watched w.codes x) = false_from now.assigned (watched w.codes x) propagated was.propagated_in (λ d. was.gone_is d ∙ ap literal_of (sym slot.1)) in
    let ne : gone ≡ code → ⊥ = λ e. free (subst (λ (c : ℕ). Contains (falses_of now.assigned) (literal_of c)) (slot.1 ∙ e) gone_false) in
    let code_in : code < length w.lists = omega (arith, was.lists, code_low) in
    let lists = moved_lists w.lists gone at x code in_lists code_in ne in
    let list : list_at (moved w.lists gone at x code) gone ≡ remove (list_at w.lists gone) at = lists.at_from in
    let shorter : length (remove (list_at w.lists gone) at) + 1 ≡ length (list_at w.lists gone) = length-remove (list_at w.lists gone) at h in
    let same : length (list_at (moved w.lists gone at x code) gone) ≡ length (remove (list_at w.lists gone) at) = ap length list in
    let bring : (i y : ℕ) → i < length now.assigned → IsRightAt w.codes now.assigned flags i y → IsRightAt (set w.codes x code) now.assigned flags i y = right_bring w.codes now.assigned flags consistent x code slot.0 gone_false free in
    let made : IsWalking clauses (record { codes = set w.codes x code; lists = moved w.lists gone at x code }) now flags propagated gone at = record {
      trail = was.trail;
      in_range = was.in_range;
      within = was.within;
      flags_long = was.flags_long;
      propagated_in = was.propagated_in;
      gone_is = was.gone_is;
      long = length-set w.codes x code ∙ was.long;
      lists = lists.long ∙ was.lists;
      watching = watched_bring clauses w.codes flags x code slot.0 was.watching (watching_bring clauses w.codes flags x code slot.0 slot.3 member differ);
      right = λ i y i_in y_in. bring i y (omega (arith, i_in, was.propagated_in)) (was.right i y i_in (omega (arith, y_in, length-set w.codes x code)));
      at_in = omega (arith, same, shorter, h);
      done = λ p p_in.
          let read : get_or (list_at (moved w.lists gone at x code) gone) p 0 ≡ get_or (list_at w.lists gone) p 0 = ap (λ (ys : List ℕ). get_or ys p 0) list ∙ get_or-remove_below (list_at w.lists gone) at 0 p p_in h in
          subst (IsRightAt (set w.codes x code) now.assigned flags propagated) (sym read) (bring propagated (get_or (list_at w.lists gone) p 0) was.propagated_in (was.done p p_in));
    } in
    subst (λ (v : WatchState). IsWalking clauses v now flags propagated gone at) (sym after_is) made

-- the other literal is true
pub right_if : (clauses : List (List Lit)) (w : WatchState) (now : AssignmentState) (flags : List Bool) (propagated gone at slot level there : ℕ) → IsAtSlot clauses w now flags propagated gone at slot → Contains (falses_of now.assigned) (negation_of (watched w.codes (twin slot))) →
    ((i : ℕ) (d : Assigned) → i < length now.assigned → (get_or now.assigned i d).lit.var ≡ get_or w.codes (twin slot) 0 / 2 → level ≡ (get_or now.assigned i d).level) → ((d : Assigned) → there ≡ (get_or now.assigned propagated d).level) → level ≤ there → IsRightAt w.codes now.assigned flags propagated slot
right_if clauses w now flags propagated gone at slot level there a is_true levels is low =
    let other : Lit = watched w.codes (twin slot) in
    let found = from_falses now.assigned (negation_of other) is_true in
    let same : (d : Assigned) → (get_or now.assigned found.0 d).lit ≡ other = λ d. negation_once (get_or now.assigned found.0 d).lit other (found.2 d) in
    right_true w.codes now.assigned flags propagated slot found.0 found.1 same (λ d.
    let e : level ≡ (get_or now.assigned found.0 d).level = levels found.0 d found.1 (ap (λ (l : Lit). l.var) (same d)) in
    omega (arith, e, is d, low))
  where
    negation_once : (k l : Lit) → negation_of k ≡ negation_of l → k ≡ l
    negation_once k l e = lit_equal k l (ap (λ (x : Lit). x.var) e) (not_same k.positive l.positive (ap (λ (x : Lit). x.positive) e))

-- the clause is marked where that is asked, and else the slot is right
pub walking_if : (clauses : List (List Lit)) (w : WatchState) (now : AssignmentState) (flags news : List Bool) (propagated gone at slot : ℕ) (b : Bool) → IsAtSlot clauses w now flags propagated gone at slot → IsListed w → (b ≡ false → IsRightAt w.codes now.assigned flags propagated slot) → news ≡ cond b (set flags (slot / 2) true) flags → IsWalking clauses w now news propagated gone (at + 1)
walking_if clauses w now flags news propagated gone at slot true a listed right is =
    let s = at_slot clauses w now flags propagated gone at slot a listed in
    let in_flags : slot / 2 < length flags = omega (arith, s.2, a.walking.flags_long) in
    let marked : IsRightAt w.codes now.assigned (set flags (slot / 2) true) propagated slot = right_marked w.codes now.assigned flags propagated slot (slot / 2) refl in_flags in
    let made = walking_on clauses w now (set flags (slot / 2) true) propagated gone at (walking_mark clauses w now flags propagated gone at (slot / 2) a.walking) a.here (subst (IsRightAt w.codes now.assigned (set flags (slot / 2) true) propagated) (sym a.is) marked) in
    subst (λ (f : List Bool). IsWalking clauses w now f propagated gone (at + 1)) (sym is) made
walking_if clauses w now flags news propagated gone at slot false a listed right is =
    let made = walking_on clauses w now flags propagated gone at a.walking a.here (subst (IsRightAt w.codes now.assigned flags propagated) (sym a.is) (right refl)) in
    subst (λ (f : List Bool). IsWalking clauses w now f propagated gone (at + 1)) (sym is) made

-- the clause of the slot forces the other literal
pub forced : (clauses : List (List Lit)) (w : WatchState) (now : AssignmentState) (flags : List Bool) (propagated gone at slot level : ℕ) (l : Lit) → IsAtSlot clauses w now flags propagated gone at slot → IsListed w → All IsClause clauses → l ≡ watched w.codes (twin slot) → IsOpen (falses_of now.assigned) l → IsFalseBut clauses (falses_of now.assigned) (slot / 2) l → level ≡ level_of now.assigned →
    IsPlaced clauses now.assigned (record { lit = l; level = level; reason = Some (slot / 2 + 1) }) × IsVarUpTo now.vars (record { lit = l; level = level; reason = Some (slot / 2 + 1) })
forced clauses w now flags propagated gone at slot level l a listed each is is_open others level_is =
    let s = at_slot clauses w now flags propagated gone at slot a listed in
    let clause : List Lit = get_or clauses (slot / 2) [] in
    let pair = pair_at clauses w.codes slot s.3 in
    let member : Contains clause l = subst (Contains clause) (sym is) pair.1 in
    let back : (slot / 2 + 1) - 1 ≡ slot / 2 = omega arith in
    let named : slice_get clauses ((slot / 2 + 1) - 1) ≡ Some clause = ap (slice_get clauses) back ∙ slice_get-get_or clauses (slot / 2) [] s.2 in
    let vars : IsVariable l.var = All-contains (λ (k : Lit). IsVariable k.var) clause l (each (slot / 2) [] s.2).variables member in
    let high : l.var ≤ now.vars = All-contains (λ (k : Lit). k.var ≤ now.vars) clause l (a.walking.within (slot / 2) [] s.2) member in (
      (record { clause = clause; named = (omega arith, named); unit = record { member = member; not_false = is_open.0; not_true = is_open.1; others = others } }, level_is),
      (vars.0, high),
    )

-- and so the slot is right, if that is at no higher level
pub right_forced : (clauses : List (List Lit)) (w : WatchState) (now : AssignmentState) (flags : List Bool) (propagated gone at slot level there : ℕ) (l : Lit) (r : Option ℕ) → IsAtSlot clauses w now flags propagated gone at slot → l ≡ watched w.codes (twin slot) → ((d : Assigned) → there ≡ (get_or now.assigned propagated d).level) → level ≤ there →
    IsRightAt w.codes (now.assigned ++ record { lit = l; level = level; reason = r } ∷ []) flags propagated slot
right_forced clauses w now flags propagated gone at slot level there l r a is there_is low =
    let x : Assigned = record { lit = l; level = level; reason = r } in
    let last : (d : Assigned) → get_or (now.assigned ++ x ∷ []) (length now.assigned) d ≡ x = λ d. get_or_push now.assigned x d (length now.assigned) refl in
    right_true w.codes (now.assigned ++ x ∷ []) flags propagated slot (length now.assigned) (omega (arith, length-append now.assigned (x ∷ [])))
    (λ d. ap (λ (b : Assigned). b.lit) (last d) ∙ is)
    (λ d. let here : (get_or (now.assigned ++ x ∷ []) (length now.assigned) d).level ≡ level = ap (λ (b : Assigned). b.level) (last d) in
    let old : (get_or (now.assigned ++ x ∷ []) propagated d).level ≡ (get_or now.assigned propagated d).level = ap (λ (b : Assigned). b.level) (get_or_append_left now.assigned (x ∷ []) d propagated a.walking.propagated_in) in
    omega (arith, here, old, there_is d, low))

pub at_slot_push : (clauses : List (List Lit)) (w : WatchState) (vars : ℕ) (assigned : List Assigned) (flags : List Bool) (propagated gone at slot : ℕ) (x : Assigned) → IsAtSlot clauses w (now_of vars assigned) flags propagated gone at slot → IsPlaced clauses assigned x → IsVarUpTo vars x → IsAtSlot clauses w (now_of vars (assigned ++ x ∷ [])) flags propagated gone at slot
at_slot_push clauses w vars assigned flags propagated gone at slot x a placed low =
    record { walking = walking_push clauses w vars assigned flags propagated gone at x a.walking placed low; here = a.here; is = a.is; gone_low = a.gone_low; gone_in = a.gone_in }

-- what is not false is not the literal that is gone
pub gone_other : (clauses : List (List Lit)) (w : WatchState) (now : AssignmentState) (flags : List Bool) (propagated gone at code : ℕ) → IsWalking clauses w now flags propagated gone at → (Contains (falses_of now.assigned) (literal_of code) → ⊥) → gone ≡ code → ⊥
gone_other clauses w now flags propagated gone at code was free e =
    free (false_from now.assigned (literal_of code) propagated was.propagated_in (λ d. was.gone_is d ∙ ap literal_of e))

-- all literals of the clause but one are false, and that one too
pub refuted : (clauses : List (List Lit)) (falses : List Lit) (n : ℕ) (other : Lit) → n < length clauses → IsFalseBut clauses falses n other → Contains falses other → Refutes clauses falses (n + 1)
refuted clauses falses n other in' others is_false =
    let clause : List Lit = get_or clauses n [] in
    let back : (n + 1) - 1 ≡ n = omega arith in
    record {
      clause = clause;
      named = (omega arith, ap (slice_get clauses) back ∙ slice_get-get_or clauses n [] in');
      falsified = λ k d h. elim (lit_equal_or_not (get_or clause k d) other) [
        | inl is ↦ subst (Contains falses) (sym is) is_false
        | inr ne ↦ others (get_or clause k d) (Contains-get_or clause k d h) ne
      ];
    }
