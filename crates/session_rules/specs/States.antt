-- The states of a session, and what a reply does to them.
use Rattle.std.specs.Prelude.{◌≡◌, ℕ, Bool, List, [], ◌∷◌, ◌++◌, map, filter, drop, slice_index_or, bytes_eq, Contains, if◌then◌else◌}
use Rattle.std.specs.List.{list_any}
use Rattle.session_rules.specs.ProofOfEnd.{ProofOfEnd}
use Rattle.session_rules.specs.declared.answers.Reply.{Reply}
use Rattle.session_rules.specs.declared.answers.Reply.TheVariants.{Shown, End, Augmented, Back, BudgetSet}

-- a scenario, and the floor at which it was shown
pub record ShownAt : Type 0 where
  pub floor : List ℕ
  pub scenario : List ℕ

-- a floor at which all that is due was shown, and the proof of that
pub record EndedAt : Type 0 where
  pub floor : List ℕ
  pub proof : ProofOfEnd

-- the floors above the bottom, which is the empty floor, the top one first; what was shown, in order; the floors that have
-- ended, in order; and the budget
pub record State : Type 0 where
  pub above : List (List ℕ)
  pub shown : List ShownAt
  pub ended : List EndedAt
  pub budget : ℕ

-- a session begins at the bottom
abbrev pub Start : ℕ → State
Start budget = record { above = []; shown = []; ended = []; budget = budget }

-- the first of the floors above the bottom, or the bottom
abbrev pub top_floor : State → List ℕ
top_floor s = slice_index_or s.above 0 []

-- the scenarios shown at the floor, in order
abbrev pub shown_at : List ℕ → State → List (List ℕ)
shown_at floor s = map (λ x. x.scenario) (filter (λ x. bytes_eq x.floor floor) s.shown)

-- the scenarios shown at the top floor, in order
abbrev pub shown_here : State → List (List ℕ)
shown_here s = shown_at (top_floor s) s

-- the current scenario is the last one shown at the top floor
abbrev pub IsCurrent : State → List ℕ → Type 0
IsCurrent s current = (before : List (List ℕ)) × (shown_here s ≡ before ++ current ∷ [])

-- whether the floor has ended
abbrev pub has_ended : List ℕ → State → Bool
has_ended floor s = list_any (λ x. bytes_eq x.floor floor) s.ended

-- the top floor has ended with this proof
abbrev pub HasEndedWith : State → ProofOfEnd → Type 0
HasEndedWith s proof = Contains s.ended (record { floor = top_floor s; proof = proof })

-- the state after a reply: what it shows, pushes or sets is put there, and the first end of a floor is kept
abbrev pub after : State → Reply → State
after s (Shown number scenario) = record s { shown = s.shown ++ record { floor = top_floor s; scenario = scenario } ∷ [] }
after s (End number proof) = if has_ended (top_floor s) s then s else record s { ended = s.ended ++ record { floor = top_floor s; proof = proof } ∷ [] }
after s (Augmented floor) = record s { above = floor ∷ s.above }
after s Back = record s { above = drop 1 s.above }
after s (BudgetSet budget) = record s { budget = budget }
after s reply = s

-- the reply neither adds a floor nor leaves one
abbrev pub KeepsFloors : Reply → Type 0
KeepsFloors (Augmented floor) = ⊥
KeepsFloors Back = ⊥
KeepsFloors reply = Unit {0}
