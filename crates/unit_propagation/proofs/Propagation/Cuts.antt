-- What a cut at the boundary of a level keeps.
use Rattle.std.proofs.Common.{◌≡◌, ◌<◌, ◌≤◌, ◌-◌, ℕ, Bool, false, None, List, length, get_or, take, arith, ap, inl, inr, refl, length-take}
use Rattle.std.proofs.lemmas.Bool.{cases_eq}
use Rattle.cnf_core.specs.declared.literal.Lit.{Lit}
use Rattle.unit_propagation.specs.Watches.WatchState.{WatchState}
use Rattle.unit_propagation.specs.declared.assignment_trail.assigned.Assigned.{Assigned}
use Rattle.unit_propagation.specs.Assignments.Trail.{IsBackTo, level_of}
use Rattle.unit_propagation.proofs.Assignments.Trails.{IsTrail-cut, level_rises, level_last}
use Rattle.unit_propagation.specs.Propagation.Walk.{IsReady}
use Rattle.unit_propagation.proofs.Propagation.Keeping.{right_cut}

pub ready_cut : (clauses : List (List Lit)) (w : WatchState) (vars : ℕ) (assigned : List Assigned) (flags : List Bool) (propagated count level now : ℕ) → IsReady clauses w (record { vars = vars; assigned = assigned }) flags propagated → count ≤ length assigned → ((j : ℕ) (d : Assigned) → count ≤ j → j < length assigned → level < (get_or assigned j d).level) → (0 < count → (d : Assigned) → (get_or assigned (count - 1) d).level ≤ level) → now ≤ propagated → now ≤ count →
    IsReady clauses w (record { vars = vars; assigned = take count assigned }) flags now
ready_cut clauses w vars assigned flags propagated count level now was within above last le le' =
    record {
      trail = IsTrail-cut clauses assigned count was.trail;
      within = was.within;
      long = was.long;
      flags_long = was.flags_long;
      lists = was.lists;
      watching = was.watching;
      propagated_in = omega (arith, length-take count assigned, within);
      right = right_cut w.codes assigned flags propagated count level within was.propagated_in
          (λ k d h. let top : (get_or assigned (count - 1) d).level ≤ level = last (omega arith) d in
          let low : (get_or assigned k d).level ≤ (get_or assigned (count - 1) d).level = level_rises clauses assigned was.trail k (count - 1) d (omega arith) (omega arith) in
          omega arith) above was.right now le le';
    }

pub back_of : (clauses : List (List Lit)) (assigned : List Assigned) (count level : ℕ) → count ≤ length assigned → ((j : ℕ) (d : Assigned) → count ≤ j → j < length assigned → level < (get_or assigned j d).level) → (0 < count → (d : Assigned) → (get_or assigned (count - 1) d).level ≤ level) → IsBackTo level assigned (take count assigned)
back_of clauses assigned count level within above last =
    record {
      count = count;
      within = within;
      stays = refl;
      undone = above;
      low = elim (cases_eq count 0) [
        | inl e ↦ let none : level_of (take count assigned) ≡ 0 = ap (λ (k : ℕ). level_of (take k assigned)) e in omega (arith, none)
        | inr ne ↦
            let d : Assigned = record { lit = record { var = 0; positive = false }; level = 0; reason = None } in
            let top : (get_or assigned (count - 1) d).level ≤ level = last (omega (arith, ne)) d in
            let same : level_of (take count assigned) ≡ (get_or assigned (count - 1) d).level = level_last assigned count d (omega (arith, ne)) within in
            omega (arith, top, same)
      ];
    }
