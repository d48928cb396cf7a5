-- The rule as the steps keep it: what holds between any two, in a form that computes, and what each step tells.
use Rattle.std.specs.Prelude.{◌≡◌, ◌≢◌, ℕ, ◌+◌, ◌≤◌, true, false, ◌&&◌, List, [], ◌∷◌, length, All, Option, Some, None, ◌==◌, if◌then◌else◌}
use mathlib.Core.Option.{some, none}
use mathlib.Core.List.{IsPrefix}
use lib.ListN.{get_elem?}
use Rattle.atomic_table.specs.Table.{State, Me, Step}
use Rattle.hub_lock.specs.declared.view.View.{View}
use Rattle.hub_lock.specs.declared.view.LastJoin.{LastJoin}
use Rattle.hub_lock.specs.Passes.{has, of_pass, in_turn, out_of_turn, seeing, IsJoined}
use Rattle.hub_lock.specs.Between.{HasView, live_of, IsHome}

-- the slot that a pass has taken while it is in turn, which is empty then
abbrev pub slots_of : {A S : Type 0} → Option A → List (ℕ × Option S)
slots_of None = []
slots_of (Some a) = (0, None) ∷ []

module _ {E : Type 0} where
  -- what a pass at this seat has found: the list, while it is the holder's turn
  abbrev pub turn_at : ℕ → ℕ → ℕ → List E → Option (List E)
  turn_at word holder seat log = if (word == 1) && (seat == holder) then Some log else None

module _ {E : Type 0} (by : E → ℕ) where
  -- what the pass at this seat knows, where the whole list is `log`
  pub record Fits {B : Type 0} (start : B) (log : List E) (seat : ℕ) (v : View E B) : Type 0 where
    pub number : v.number ≡ seat
    pub seen : IsPrefix v.seen log
    pub own : of_pass by seat log ≡ v.own
    pub own_seen : of_pass by seat v.seen ≡ v.own
    pub base_is : v.base ≡ Some start

  -- what the rule says of one pass alone
  pub record Known {B : Type 0} (v : View E B) : Type 0 where
    pub own : of_pass by v.number v.seen ≡ v.own
    pub numbers : v.number ≡ 0 → All (λ e. by e ≤ v.made) v.seen
    pub joins : v.number ≡ 0 → (j : LastJoin E) → v.last ≡ Some j → IsJoined by v j

module _ {T E B : Type 0} (entries : T → List E) (base : T → B) where
  -- the value is at home, with this list and base
  abbrev pub IsAt : State (Option T) (View E B) → B → List E → Type 0
  IsAt s start log = (value : T) × IsHome s value × (entries value ≡ log) × (base value ≡ start)

module _ {T E B : Type 0} (by : E → ℕ) (entries : T → List E) (base : T → B) where
  -- The list is `log`, the first pass knows `front`, and while the turn is held the pass at `holder` has it. A pass's number is its seat's
  pub record IsOrderly (start : B) (s : State (Option T) (View E B)) : Type 0 where
    pub log : List E
    pub front : View E B
    pub holder : ℕ
    pub word : ℕ
    pub words : s.words ≡ word ∷ length log ∷ []
    pub front_is : HasView s.views 0 front
    pub made : length s.views ≡ front.made + 1
    pub live : live_of s.views ≡ front.live + 1
    pub each : (seat : ℕ) (v : View E B) → HasView s.views seat v → Fits by start log seat v
    pub turns : (seat : ℕ) (v : View E B) → HasView s.views seat v → v.turn ≡ turn_at word holder seat log
    pub bit : word ≤ 1
    pub held : word ≡ 1 → (v : View E B) × HasView s.views holder v
    pub away : word ≡ 1 → get_elem? s.homes 0 ≡ some none
    pub home : word ≡ 0 → IsAt entries base s start log
    pub known : (seat : ℕ) × (v : View E B) × HasView s.views seat v × (v.seen ≡ log)
    pub numbers : All (λ e. by e ≤ front.made) log
    pub joined : (seat : ℕ) (v : View E B) → get_elem? s.views seat ≡ some v → has front.joined seat ≡ v.spent
    pub not_made : (seat : ℕ) → length s.views ≤ seat → has front.joined seat ≡ false
    pub joined_seen : (seat : ℕ) → has front.joined seat ≡ true → of_pass by seat front.seen ≡ of_pass by seat log
    pub last_join : (j : LastJoin E) → front.last ≡ Some j → IsJoined by front j

  abbrev Sat : Type 0
  Sat = Me (Option T) (View E B)

  -- the pass has the turn, and the slot with this value
  pub record IsTaken (m m' : Sat) (value : T) : Type 0 where
    pub slot : m'.1 ≡ (0, Some value) ∷ []
    pub view : m'.0 ≡ in_turn m.0 (entries value)
    pub seen : IsPrefix m.0.seen (entries value)
    pub own : of_pass by m.0.number (entries value) ≡ m.0.own
    pub base_is : m.0.base ≡ Some (base value)

  -- a try for the turn: where it found 0 the pass has the turn, and else nothing changed
  abbrev pub tried : Step (Option T) → Sat → ℕ → Sat → Type 0
  tried st m found m' = (found ≡ 0 → (value : T) × IsTaken m m' value) × (found ≢ 0 → m' ≡ m)

module _ {T E B : Type 0} where
  -- a count: the pass has seen the entries of the value that lies in its slot
  abbrev pub counted : (E → ℕ) → (T → List E) → Step (Option T) → Me (Option T) (View E B) → ℕ → Me (Option T) (View E B) → Type 0
  counted by entries st m found m' = (value : T) → m.1 ≡ (0, Some value) ∷ [] → m' ≡ (seeing by m.0 (entries value), m.1)

  -- a hand on: the pass has no turn and no slot
  abbrev pub handed_on : Step (Option T) → Me (Option T) (View E B) → ℕ → Me (Option T) (View E B) → Type 0
  handed_on st m found m' = m' ≡ (out_of_turn m.0, [])

  -- a look: nothing changed, and the rule is told of the own view
  abbrev pub looked : (E → ℕ) → Step (Option T) → Me (Option T) (View E B) → ℕ → Me (Option T) (View E B) → Type 0
  looked by st m found m' = (m' ≡ m) × Known by m.0
