-- What is so of an order after its activities were halved or raised, or a variable taken or put back.
use Rattle.std.proofs.Common.{◌≡◌, ◌<◌, ◌≤◌, ◌+◌, ◌/◌, ◌^◌, ℕ, Bool, false, Option, Some, None, List, length, get_or, set, map, arith, ap, sym, ◌∙◌, inl, inr, cond}
use Rattle.std.proofs.lemmas.Bool.{cases_lt, lt-ltb, le-ltb}
use Rattle.std.proofs.lemmas.List.{length-map, get_or-map}
use Rattle.std.proofs.lemmas.List.Elements.{All-map}
use Rattle.std.specs.Option.{MatchOption}
use Rattle.std.specs.List.{All}
use Rattle.unit_propagation.specs.Activity.OrderState.{OrderState, activity_of, with_waiting, halved, with_room, next_increment}

abbrev pub mk_state : List ℕ → ℕ → List Bool → OrderState
mk_state activities increment waiting = record { activities = activities; increment = increment; waiting = waiting }

-- there was room
pub room_there : (s : OrderState) (sum : ℕ) → sum ≤ 2 ^ 62 → s ≡ with_room s sum
room_there s sum h = ap (λ (b : Bool). cond b (halved s) s) (sym (le-ltb (2 ^ 62) sum h))

-- room was made
pub room_made : (s : OrderState) (sum : ℕ) → 2 ^ 62 < sum → halved s ≡ with_room s sum
room_made s sum h = ap (λ (b : Bool). cond b (halved s) s) (sym (lt-ltb (2 ^ 62) sum h))

-- then there is room for the sum of an activity and the increment
pub sum_fits : (s t : OrderState) (var sum : ℕ) → t ≡ with_room s sum → sum ≡ activity_of s.activities var + s.increment → var < length s.activities → activity_of s.activities var ≤ 2 ^ 62 → s.increment ≤ 2 ^ 62 → activity_of t.activities var + t.increment ≤ 2 ^ 62
sum_fits s t var sum is sum_is in' small small' = elim (cases_lt (2 ^ 62) sum) [
  | inl over ↦
      let now : t ≡ halved s = is ∙ sym (room_made s sum over) in
      let a : activity_of t.activities var ≡ activity_of s.activities var / 2 = ap (λ (o : OrderState). activity_of o.activities var) now ∙ get_or-map (λ a. a / 2) s.activities var 0 0 in' in
      let i : t.increment ≡ s.increment / 2 = ap (λ (o : OrderState). o.increment) now in
      omega arith
  | inr under ↦
      let now : t ≡ s = is ∙ sym (room_there s sum under) in
      let a : activity_of t.activities var ≡ activity_of s.activities var = ap (λ (o : OrderState). activity_of o.activities var) now in
      let i : t.increment ≡ s.increment = ap (λ (o : OrderState). o.increment) now in
      omega arith
]

-- and for the next increment
pub next_fits : (s t : OrderState) (sum : ℕ) → t ≡ with_room s sum → sum ≡ next_increment s.increment → s.increment ≤ 2 ^ 62 → next_increment t.increment ≤ 2 ^ 62
next_fits s t sum is sum_is small = elim (cases_lt (2 ^ 62) sum) [
  | inl over ↦
      let i : t.increment ≡ s.increment / 2 = ap (λ (o : OrderState). o.increment) (is ∙ sym (room_made s sum over)) in
      omega arith
  | inr under ↦
      let i : t.increment ≡ s.increment = ap (λ (o : OrderState). o.increment) (is ∙ sym (room_there s sum under)) in
      omega arith
]

-- as many activities as before
pub room_long : (s t : OrderState) (sum : ℕ) → t ≡ with_room s sum → length t.activities ≡ length s.activities
room_long s t sum is = elim (cases_lt (2 ^ 62) sum) [
  | inl over ↦ ap (λ (o : OrderState). length o.activities) (is ∙ sym (room_made s sum over)) ∙ length-map s.activities (λ a. a / 2)
  | inr under ↦ ap (λ (o : OrderState). length o.activities) (is ∙ sym (room_there s sum under))
]

-- and the same ones wait
pub room_waiting : (s t : OrderState) (sum : ℕ) → t ≡ with_room s sum → t.waiting ≡ s.waiting
room_waiting s t sum is = elim (cases_lt (2 ^ 62) sum) [
  | inl over ↦ ap (λ (o : OrderState). o.waiting) (is ∙ sym (room_made s sum over))
  | inr under ↦ ap (λ (o : OrderState). o.waiting) (is ∙ sym (room_there s sum under))
]

pub halves_small : (activities : List ℕ) → All (λ a. a ≤ 2 ^ 62) activities → All (λ a. a ≤ 2 ^ 62) (map (λ a. a / 2) activities)
halves_small activities small = All-map (λ a. a ≤ 2 ^ 62) (λ a. a / 2) activities (λ k d h. let here : get_or activities k d ≤ 2 ^ 62 = small k d h in omega arith)

-- the answer of the heap is that of the order
pub taken_is : (a : List ℕ) (i : ℕ) (w w' : List Bool) (result : Option ℕ) → MatchOption result (w' ≡ w) (λ var. w' ≡ set w var false) →
    MatchOption result (mk_state a i w' ≡ mk_state a i w) (λ var. mk_state a i w' ≡ with_waiting (mk_state a i w) var false)
taken_is a i w w' None e = ap (λ (x : List Bool). mk_state a i x) e
taken_is a i w w' (Some var) e = ap (λ (x : List Bool). mk_state a i x) e
