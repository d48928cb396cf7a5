-- What holds between any two steps on a lock's words.
use Rattle.std.specs.Prelude.{◌≡◌, ◌≢◌, ◌↔◌, ℕ, ◌+◌, ◌<◌, ◌≤◌, true, false, List, [], ◌∷◌, length, slice_index, All, Option, Some, IsSome, if◌then◌else◌}
use mathlib.Core.Option.{some}
use mathlib.Core.List.{IsPrefix}
use lib.ListN.{get_elem?}
use Rattle.atomic_table.specs.Table.{State}
use Rattle.hub_lock.specs.declared.view.View.{View}
use Rattle.hub_lock.specs.declared.view.LastJoin.{LastJoin}
use Rattle.hub_lock.specs.Passes.{has, of_pass, IsJoined}

module _ {E B : Type 0} where
  -- the pass at this seat knows this, and was not taken back
  abbrev pub HasView : List (View E B) → ℕ → View E B → Type 0
  HasView views seat v = (get_elem? views seat ≡ some v) × (v.spent ≡ false)

  -- 1 for a pass that was not taken back
  abbrev pub is_live : View E B → ℕ
  is_live v = if v.spent then 0 else 1

  -- how many were not
  abbrev pub live_of : List (View E B) → ℕ
  live_of [] = 0
  live_of (v ∷ vs) = is_live v + live_of vs

  abbrev pub IsInTurn : View E B → Type 0
  IsInTurn v = IsSome v.turn

module _ {T E B : Type 0} where
  -- the value lies in the lock's slot
  abbrev pub IsHome : State (Option T) (View E B) → T → Type 0
  IsHome s value = get_elem? s.homes 0 ≡ some (some (Some value))

-- The rule. `by`, `entries` and `base` are those of the kept value, and `start` is the base of the value that the lock was made with. `log` is the list of entries as it stands, and `front` what the first pass knows; "a pass" is one that was not taken back
pub record HoldsBetweenSteps {T E B : Type 0} (by : E → ℕ) (entries : T → List E) (base : T → B) (start : B) (s : State (Option T) (View E B)) : Type 0 where
  pub log : List E
  pub front : View E B
  -- the first pass has the number 0; numbers differ, and are at most how many passes it made; `live` counts the others
  pub first : HasView s.views 0 front × (front.number ≡ 0)
  pub differ : (i j : ℕ) (v w : View E B) → HasView s.views i v → HasView s.views j w → v.number ≡ w.number → i ≡ j
  pub made : (i : ℕ) (v : View E B) → HasView s.views i v → v.number ≤ front.made
  pub live : live_of s.views ≡ front.live + 1
  -- word 0 is 0, or is 1; at most one pass is in turn, and word 0 is 1 exactly while one is
  pub bit : slice_index s.words 0 ≤ 1
  pub one_in_turn : (i j : ℕ) (v w : View E B) → HasView s.views i v → HasView s.views j w → IsInTurn v → IsInTurn w → i ≡ j
  pub held : (slice_index s.words 0 ≡ 1) ↔ ((i : ℕ) × (v : View E B) × HasView s.views i v × IsInTurn v)
  -- word 1 is the length of the list; while no pass is in turn the value is at home; a value at home has the list as its entries, and so has a pass in turn as what it found; what a pass has seen begins the list, and some pass has seen all of it
  pub count : slice_index s.words 1 ≡ length log
  pub home : slice_index s.words 0 ≡ 0 → (value : T) × IsHome s value
  pub at_home : (value : T) → IsHome s value → entries value ≡ log
  pub found : (i : ℕ) (v : View E B) → HasView s.views i v → IsInTurn v → v.turn ≡ Some log
  pub seen : (i : ℕ) (v : View E B) → HasView s.views i v → IsPrefix v.seen log
  pub whole : (i : ℕ) × (v : View E B) × HasView s.views i v × (v.seen ≡ log)
  -- no entry is under a number that no pass got; a pass has seen the entries under its number, and they are its own; the numbers taken back are those from 1 up that no pass has, and the first pass has seen the entries under them
  pub numbers : All (λ e. by e ≤ front.made) log
  pub own : (i : ℕ) (v : View E B) → HasView s.views i v → (of_pass by v.number log ≡ v.own) × (of_pass by v.number v.seen ≡ v.own)
  pub joined : (n : ℕ) → (has front.joined n ≡ true) ↔ ((0 < n) × (n ≤ front.made) × ((i : ℕ) (v : View E B) → HasView s.views i v → v.number ≢ n))
  pub joined_seen : (n : ℕ) → has front.joined n ≡ true → of_pass by n front.seen ≡ of_pass by n log
  -- what the first pass has seen begins with both lists of the last pass that it took back, and it has the entries of that one and of the earlier ones
  pub last_join : (j : LastJoin E) → front.last ≡ Some j → IsJoined by front j
  -- all have the base that the lock was made with
  pub base_of_each : (i : ℕ) (v : View E B) → HasView s.views i v → v.base ≡ Some start
  pub base_at_home : (value : T) → IsHome s value → base value ≡ start
