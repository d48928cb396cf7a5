-- What an order of variables by activity is, as its callers see it.
use Rattle.std.specs.Prelude.{◌≡◌, ◌≢◌, ◌⊎◌, ◌+◌, ◌/◌, ◌<◌, ◌≤◌, ◌^◌, ℕ, Bool, false, List, All, IsTrue, map, length, nat_lt, if◌then◌else◌, slice_index_or, slice_set}

-- the activity of each variable, what a variable is raised by, and whether each variable waits
pub record OrderState : Type 0 where
  pub activities : List ℕ
  pub increment : ℕ
  pub waiting : List Bool

abbrev pub activity_of : List ℕ → ℕ → ℕ
activity_of activities var = slice_index_or activities var 0

-- the variable waits
abbrev pub Waits : List Bool → ℕ → Type 0
Waits waiting var = IsTrue (slice_index_or waiting var false)

-- no variable waits
abbrev pub NoneWaits : List Bool → Type 0
NoneWaits waiting = (var : ℕ) → ¬ Waits waiting var

-- a variable comes before another: its activity is greater, or the same and it is the lower one
abbrev pub IsBefore : List ℕ → ℕ → ℕ → Type 0
IsBefore activities var other =
    (activity_of activities other < activity_of activities var) ⊎ ((activity_of activities var ≡ activity_of activities other) × (var < other))

-- the variable waits, and comes before each other that waits
pub record IsFirst (activities : List ℕ) (waiting : List Bool) (var : ℕ) : Type 0 where
  pub in_range : var < length waiting
  pub waits : Waits waiting var
  pub first : (other : ℕ) → Waits waiting other → other ≢ var → IsBefore activities var other

-- whether this variable waits is changed
abbrev pub with_waiting : OrderState → ℕ → Bool → OrderState
with_waiting s var waits = record s { waiting = slice_set s.waiting var waits }

-- all activities and the increment, halved and rounded down
abbrev pub halved : OrderState → OrderState
halved s = record { activities = map (λ a. a / 2) s.activities; increment = s.increment / 2; waiting = s.waiting }

-- they are halved where this sum would be above 2 ^ 62: once is enough, as no part of a sum is above it
abbrev pub with_room : OrderState → ℕ → OrderState
with_room s sum = if nat_lt (2 ^ 62) sum then halved s else s

-- the increment is added to the activity of a variable
abbrev pub added : OrderState → ℕ → OrderState
added s var = record s { activities = slice_set s.activities var (activity_of s.activities var + s.increment) }

-- the same, after room is made for the sum
abbrev pub raised : OrderState → ℕ → OrderState
raised s var = added (with_room s (activity_of s.activities var + s.increment)) var

-- a nineteenth more, and 1 so that small ones grow too
abbrev pub next_increment : ℕ → ℕ
next_increment increment = increment + increment / 19 + 1

-- the increment grows, after room is made for it
abbrev pub grown : OrderState → OrderState
grown s = record s { increment = next_increment s.increment }

abbrev pub decayed : OrderState → OrderState
decayed s = grown (with_room s (next_increment s.increment))

-- how long the lists are, and how great the numbers
pub record IsBounded (s : OrderState) : Type 0 where
  pub long : length s.waiting ≡ length s.activities
  pub few : length s.activities < 2 ^ 32
  pub activities_small : All (λ a. a ≤ 2 ^ 62) s.activities
  pub increment_small : s.increment ≤ 2 ^ 62
