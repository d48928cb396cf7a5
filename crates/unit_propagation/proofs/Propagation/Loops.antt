-- How a walk begins, goes on along its list, and ends.
use Rattle.std.proofs.Common.{◌≡◌, ◌<◌, ◌≤◌, ◌+◌, ◌-◌, [], ◌∷◌, ℕ, zero, suc, Bool, false, None, List, length, get_or, All, arith, sym, ◌∙◌, ap, refl, subst}
use Rattle.std.proofs.lemmas.List.{get_or_default}
use Rattle.std.specs.List.{Contains, remove}
use Rattle.cnf_core.specs.declared.literal.Lit.{Lit}
use Rattle.cnf_core.specs.Literal.{negation_of}
use Rattle.unit_propagation.specs.Clauses.Codes.{literal_of}
use Rattle.unit_propagation.specs.Watches.WatchState.{WatchState, IsListed, list_at, link_at}
use Rattle.unit_propagation.specs.declared.assignment_trail.assigned.Assigned.{Assigned}
use Rattle.unit_propagation.specs.Assignments.Trail.{IsVarUpTo}
use Rattle.unit_propagation.specs.Assignments.AssignmentState.{AssignmentState}
use Rattle.unit_propagation.specs.Propagation.Rule.{IsRightAt, IsWatchedRight}
use Rattle.unit_propagation.specs.Propagation.Walk.{IsWalking, IsReady}
use Rattle.unit_propagation.proofs.Propagation.Keeping.{right_propagated}
use Rattle.unit_propagation.proofs.Propagation.Slots.{literal_of-same}

-- a link that is not the end
pub link_some : (xs : List ℕ) (k n : ℕ) → n ≡ link_at xs k → (n ≡ 0 → ⊥) → (k < length xs) × (get_or xs k 0 ≡ n - 1)
link_some [] k n is ne = absurd (ne is)
link_some (x ∷ xs) zero n is ne = (omega arith, omega (arith, is))
link_some (x ∷ xs) (suc k) n is ne = let later = link_some xs k n is ne in (omega (arith, later.0), later.1)

pub link_none : (xs : List ℕ) (k n : ℕ) → n ≡ link_at xs k → n ≡ 0 → length xs ≤ k
link_none [] k n is end = omega arith
link_none (x ∷ xs) zero n is end = absurd (omega (arith, is, end))
link_none (x ∷ xs) (suc k) n is end = let later = link_none xs k n is end in omega (arith, later)

-- the link at a place where the slot is taken off is the one that followed
pub link_removed : (xs : List ℕ) (k : ℕ) → k < length xs → link_at (remove xs k) k ≡ link_at xs (k + 1)
link_removed [] k h = absurd (omega arith)
link_removed (x ∷ xs) zero h = refl
link_removed (x ∷ xs) (suc k) h =
    let up : suc k + 1 ≡ suc (k + 1) = omega arith in
    link_removed xs k (omega arith) ∙ sym (ap (link_at (x ∷ xs)) up)

-- at the end of the list, the consequences of the literal are propagated
pub walked : (clauses : List (List Lit)) (w : WatchState) (now : AssignmentState) (flags : List Bool) (propagated gone at : ℕ) → IsWalking clauses w now flags propagated gone at → IsListed w → length (list_at w.lists gone) ≤ at → IsWatchedRight w.codes now.assigned flags (propagated + 1)
walked clauses w now flags propagated gone at was listed all =
    right_propagated w.codes now.assigned flags propagated was.right (λ x h is.
    let d : Assigned = record { lit = record { var = 0; positive = false }; level = 0; reason = None } in
    let code : get_or w.codes x 0 ≡ gone = literal_of-same (get_or w.codes x 0) gone (sym (is d) ∙ was.gone_is d) in
    let there : Contains (list_at w.lists gone) x = subst (λ (c : ℕ). Contains (list_at w.lists c) x) code (listed.all x h).1 in
    let read : get_or (list_at w.lists gone) there.0 0 ≡ x = get_or_default (list_at w.lists gone) there.0 0 x there.1 ∙ there.2 in
    let right : IsRightAt w.codes now.assigned flags propagated x = subst (IsRightAt w.codes now.assigned flags propagated) read (was.done there.0 (omega (arith, there.1, all))) in
    right is)

-- from the end of a walk, and from its beginning
pub ready_of : (clauses : List (List Lit)) (w : WatchState) (now : AssignmentState) (flags : List Bool) (propagated gone at n : ℕ) → IsWalking clauses w now flags propagated gone at → n ≤ propagated + 1 → IsWatchedRight w.codes now.assigned flags n → IsReady clauses w now flags n
ready_of clauses w now flags propagated gone at n was low right =
    record {
      trail = was.trail;
      within = was.within;
      long = was.long;
      flags_long = was.flags_long;
      lists = was.lists;
      watching = was.watching;
      propagated_in = omega (arith, was.propagated_in, low);
      right = right;
    }

pub walking_of : (clauses : List (List Lit)) (w : WatchState) (now : AssignmentState) (flags : List Bool) (propagated gone : ℕ) → IsReady clauses w now flags propagated → All (IsVarUpTo now.vars) now.assigned → propagated < length now.assigned → ((d : Assigned) → negation_of (get_or now.assigned propagated d).lit ≡ literal_of gone) → IsWalking clauses w now flags propagated gone 0
walking_of clauses w now flags propagated gone was in_range in' is =
    record {
      trail = was.trail;
      in_range = in_range;
      within = was.within;
      long = was.long;
      flags_long = was.flags_long;
      lists = was.lists;
      watching = was.watching;
      propagated_in = in';
      gone_is = is;
      right = was.right;
      at_in = omega arith;
      done = λ p h. absurd (omega arith);
    }
