use Rattle.std.proofs.Common.{◌≡◌, ◌<◌, ◌≤◌, ◌-◌, ◌++◌, ◌∷◌, [], ℕ, List, All, map, take, length, slice_index_or, vec_len, vec_capacity, ap, subst, sym, ◌∙◌, arith}
use Rattle.session_rules.specs.States.{ShownAt, top_floor}
use Rattle.session_state.specs.declared.session_store.floors.Found.{Found}
use Rattle.session_state.specs.Store.Numbered.{found_there, state_of}
use Rattle.session_state.proofs.Store.Numbers.{copies_kept_is, copies_in_range, copies_long}
use Rattle.session_state.proofs.session_store.store.SessionStore.keep_copies.Goals as goal

abbrev at : List ℕ → List ℕ → ShownAt
at floor x = record { floor = floor; scenario = x }

pub invariant_of-self : goal.invariant_of-self
invariant_of-self c =
    let t = c.self.inside in
    let kept = c.self.invariant in
    let room : length c.args.copies < t.room = rw (← c.self.view_is) at c.requires.room in
    let number : c.top_of-floor.result ≡ slice_index_or t.above.items 0 0 = c.top_of-floor.ensures ∙ ap (λ ns. slice_index_or ns 0 0) c.as_slice.ensures.value in
    let mk : ℕ → List ℕ → Found = λ n x. record { floor = n; scenario = x } in
    let k = 1000000 - length t.copies.items in
    let pushed : c.push_all.new.found.items ≡ t.copies.items ++ take k (map (mk (slice_index_or t.above.items 0 0)) c.args.copies) =
    c.push_all.ensures.found ∙ ap (λ n. t.copies.items ++ take k (map (mk n) c.into_scenarios.result.items)) number ∙ ap (λ xs. t.copies.items ++ take k (map (mk (slice_index_or t.above.items 0 0)) xs)) c.into_scenarios.ensures in
    record {
      numbered = record {
        bottom = kept.numbered.bottom;
        distinct = kept.numbered.distinct;
        above_in = kept.numbered.above_in;
        shown_in = kept.numbered.shown_in;
        ended_in = kept.numbered.ended_in;
        copies_in = subst (All (λ (x : Found). x.floor < length t.floors.items)) (sym pushed)
            (copies_in_range t.floors.items t.above.items t.shown.items t.ended.items t.copies.items t.budget kept.numbered k c.args.copies);
      };
      few_copies = c.push_all.ensures.few;
      has_room = record {
        floors = λ l. kept.has_room.floors (omega (arith, room));
        above = λ l. kept.has_room.above (omega (arith, room));
        shown = λ l. kept.has_room.shown (omega (arith, room));
        ended = λ l. kept.has_room.ended (omega (arith, room));
        copies = λ l. omega (arith, c.push_all.ensures.room);
      };
    }

pub returns-clause-copies : goal.returns-clause-copies
returns-clause-copies c =
    let t = c.self.inside in
    let number : c.top_of-floor.result ≡ slice_index_or t.above.items 0 0 = c.top_of-floor.ensures ∙ ap (λ ns. slice_index_or ns 0 0) c.as_slice.ensures.value in
    let mk : ℕ → List ℕ → Found = λ n x. record { floor = n; scenario = x } in
    let k = 1000000 - length t.copies.items in
    let pushed : c.push_all.new.found.items ≡ t.copies.items ++ take k (map (mk (slice_index_or t.above.items 0 0)) c.args.copies) =
    c.push_all.ensures.found ∙ ap (λ n. t.copies.items ++ take k (map (mk n) c.into_scenarios.result.items)) number ∙ ap (λ xs. t.copies.items ++ take k (map (mk (slice_index_or t.above.items 0 0)) xs)) c.into_scenarios.ensures in
    let top = top_floor (state_of t.floors.items t.above.items t.shown.items t.ended.items t.budget) in
    let there = found_there t.floors.items t.copies.items in
    rw (← c.self.view_is) (
    ap (found_there t.floors.items) pushed
    ∙ copies_kept_is t.floors.items t.above.items t.shown.items t.ended.items t.copies.items t.budget c.self.invariant.numbered k c.args.copies
    ∙ ap (λ n. there ++ take (1000000 - n) (map (λ (x : List ℕ). at top x) c.args.copies)) (sym (copies_long t.floors.items t.above.items t.shown.items t.ended.items t.copies.items t.budget c.self.invariant.numbered)))
