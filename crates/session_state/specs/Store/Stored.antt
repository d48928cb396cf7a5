-- What contracts see of a session's store, and what it becomes with a reply.
use Rattle.std.specs.Prelude.{◌≡◌, ◌<◌, ◌≤◌, ◌+◌, ◌-◌, ℕ, Bool, true, false, List, [], ◌∷◌, ◌++◌, map, filter, take, length, bytes_eq, vec_len, vec_capacity, if◌then◌else◌}
use Rattle.session_rules.specs.States.{State, ShownAt, top_floor, after}
use Rattle.session_rules.specs.declared.answers.Reply.{Reply}
use Rattle.session_rules.specs.declared.answers.Reply.TheVariants.{Shown, End}
use Rattle.session_state.specs.Store.Numbered.{AreNumbered}
use Rattle.session_state.specs.declared.session_store.store.SessionStore.TheInside.{Inside}

-- the state; the copies of shown scenarios, each with its floor; and for how many copies and one more there is room
pub record Stored : Type 0 where
  pub state : State
  pub copies : List ShownAt
  pub room : ℕ

-- the copies that were found at the floor, in order
abbrev pub copies_at : List ℕ → Stored → List (List ℕ)
copies_at floor s = map (λ x. x.scenario) (filter (λ x. bytes_eq x.floor floor) s.copies)

-- whether copies that were found on the way to the reply are kept
abbrev pub keeps_copies : Reply → Bool
keeps_copies (Shown number scenario) = true
keeps_copies (End number proof) = true
keeps_copies reply = false

-- of the copies that were found at the top floor, those that are kept: up to a million in all
abbrev pub copies_kept : Stored → List (List ℕ) → List ShownAt
copies_kept s found = take (1000000 - length s.copies) (map (λ x. record { floor = top_floor s.state; scenario = x }) found)

-- the copies after a reply: those found on the way to what was shown, or to an end, are kept
abbrev pub copies_after : Stored → Reply → List (List ℕ) → List ShownAt
copies_after s reply found =
    if keeps_copies reply then s.copies ++ copies_kept s found else s.copies

-- there is room for a reply and its copies
pub record HasRoom (t : Inside) : Type 0 where
  pub floors : 0 < t.room → vec_len t.floors < vec_capacity t.floors
  pub above : 0 < t.room → vec_len t.above < vec_capacity t.above
  pub shown : 0 < t.room → vec_len t.shown < vec_capacity t.shown
  pub ended : 0 < t.room → vec_len t.ended < vec_capacity t.ended
  pub copies : 0 < t.room → vec_len t.copies + t.room ≤ vec_capacity t.copies + 1

-- what a store keeps
pub record IsStored (t : Inside) : Type 0 where
  pub numbered : AreNumbered t.floors.items t.above.items t.shown.items t.ended.items t.copies.items
  pub few_copies : vec_len t.copies ≤ 1000000
  pub has_room : HasRoom t
