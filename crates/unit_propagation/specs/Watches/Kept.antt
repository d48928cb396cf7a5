-- What watch lists keep: each slot is on the list of the code that it watches, and on no other, once.
use Rattle.std.specs.Prelude.{◌≡◌, ◌<◌, ◌^◌, ℕ, List, [], ◌∷◌, Contains, length, slice_index_or}
use Rattle.unit_propagation.specs.declared.watch_lists.lists.Slot.{Slot}
use Rattle.unit_propagation.specs.declared.watch_lists.lists.WatchLists.TheInside.{Inside}
use Rattle.unit_propagation.specs.Watches.Linked.{IsLinked, lists_of, code_at}
use Rattle.unit_propagation.specs.Watches.WatchState.{list_at}

-- no slot stands there twice
abbrev pub IsOnce : List ℕ → Type 0
IsOnce [] = Unit {0}
IsOnce (x ∷ xs) = (¬ Contains xs x) × IsOnce xs

-- the heads lead to these lists, and they have each slot under its own code, once
pub record AreLists (slots : List Slot) (first : List ℕ) (lists : List (List ℕ)) : Type 0 where
  pub long : length lists ≡ length first
  pub linked : (code : ℕ) → code < length first → IsLinked slots (slice_index_or first code 0) (list_at lists code)
  pub own : (code x : ℕ) → code < length first → Contains (list_at lists code) x → code_at slots x ≡ code
  pub all : (x : ℕ) → x < length slots → (code_at slots x < length first) × Contains (list_at lists (code_at slots x)) x
  pub once : (code : ℕ) → code < length first → IsOnce (list_at lists code)

-- so it is of the lists that are found from the heads
pub record IsKept (w : Inside) : Type 0 where
  pub lists : AreLists w.slots.items w.first.items (lists_of w.slots.items w.first.items)
  pub few : length w.slots.items < 2 ^ 32
