-- Sessions in passes of their own, between the turns of the lock.
use Rattle.std.specs.Prelude.{◌≡◌, ◌≢◌, ◌+◌, ◌<◌, ◌≤◌, ◌∷◌, [], ℕ, List, Option, Some, None, IfSome, Result, Ok, Vec, length, map, slice_get, slice_index_or, All}
use Rattle.std.specs.declared.alloc.AllocError.{AllocError}
use Rattle.std.specs.declared.alloc.Global.{Global}
use mathlib.Core.List.{IsPrefix}
use Rattle.atomic_table.specs.Seated.{TableId}
use Rattle.hub_lock.specs.Passes.{PassView, of_pass}
use Rattle.rel_formula.specs.Bounds.{Bounded}
use Rattle.translation_rules.specs.Translation.{Translated}
use Rattle.session_rules.specs.declared.script.SessionScript.{SessionScript}
use Rattle.session_rules.specs.declared.script.Transcript.{Transcript}
use Rattle.session_state.specs.Sessions.Fits.{InSession}
use Rattle.hub_state.specs.Journal.Noted.{Noted, Published}
use Rattle.hub_turns.specs.Turned.{IsIdle}
use Rattle.session_turns.specs.Seated.{IsSeated}
use Rattle.session_turns.specs.Allowed.{allowed}
use Rattle.session_turns.specs.Served.{IsOpened, IsServedScript}
use Rattle.explorer_run.specs.declared.seats.Seat.{Seat}
use Rattle.explorer_run.specs.Served.{ArePublished}

-- all that the pass did was to publish translations
abbrev pub HasPublishedOnly : PassView Noted (List Bounded) → Type 0
HasPublishedOnly p = All (λ note. (key : ℕ) × (t : Translated) × (note ≡ Published key t)) (map (λ x. x.note) p.view.own)

-- the first pass, out of turn; it did nothing but publish, and has seen that these translations are those of their keys
pub record IsRoot (lock : TableId) (ts : List Translated) (p : PassView Noted (List Bounded)) : Type 0 where
  pub idle : IsIdle lock p
  pub number : p.view.number ≡ 0
  pub own : HasPublishedOnly p
  pub published : ArePublished p.view.seen ts

-- it is the first pass still, of the same lock
pub record StaysRoot (lock : TableId) (ts : List Translated) (old new : PassView Noted (List Bounded)) : Type 0 where
  pub root : IsRoot lock ts new
  pub base : new.view.base ≡ old.view.base

-- the first pass of a new lock, which has published a translation for each of these problems and split none off
pub record IsNewRoot (lock : TableId) (problems : List Bounded) (ts : List Translated) (p : PassView Noted (List Bounded)) : Type 0 where
  pub root : IsRoot lock ts p
  pub base : p.view.base ≡ Some problems
  pub keys : length ts ≡ length problems
  pub made : p.view.made ≡ 0
  pub live : p.view.live ≡ 0

-- the first pass split this one off, whose session was just opened over the translation of the key
pub record HasOpened (lock : TableId) (ts : List Translated) (key budget : ℕ) (root p : PassView Noted (List Bounded)) (x : InSession) : Type 0 where
  pub translation : Translated
  pub of_key : slice_get ts key ≡ Some translation
  pub seated : IsSeated lock translation 0 p x
  pub opened : IsOpened key budget p x
  pub number : p.view.number ≡ root.view.made + 1
  pub base : p.view.base ≡ root.view.base

-- the seat has the session of the script at this place, which was just opened over the translation of its key
pub record IsReady (lock : TableId) (ts : List Translated) (scripts : List SessionScript) (place : ℕ) (seat : Seat) : Type 0 where
  pub script : SessionScript
  pub at : slice_get scripts place ≡ Some script
  pub translation : Translated
  pub of_key : slice_get ts script.key ≡ Some translation
  pub seated : IsSeated lock translation 0 seat.pass seat.session
  pub opened : IsOpened script.key script.budget seat.pass seat.session
  pub number : seat.pass.view.number ≢ 0
  pub none : seat.transcript ≡ None
  pub fresh : seat.count ≡ 0

-- the passes of the seats have this base, and the numbers from the first on
abbrev pub IsPlaced : Option (List Bounded) → ℕ → ℕ → Seat → Type 0
IsPlaced base first place seat = (seat.pass.view.base ≡ base) × (seat.pass.view.number ≡ first + place)

-- the seat's pass is out of turn, and not the first one of its lock
pub record IsOut (lock : TableId) (base : Option (List Bounded)) (seat : Seat) : Type 0 where
  pub idle : IsIdle lock seat.pass
  pub number : seat.pass.view.number ≢ 0
  pub base_is : seat.pass.view.base ≡ base

-- the transcript is that of the script's session of this number, over the translation of its key, and the journal tells it
abbrev pub IsTranscriptOf : List Bounded → List Noted → List Translated → ℕ → SessionScript → Transcript → Type 0
IsTranscriptOf problems journal ts number x y = (t : Translated) × (slice_get ts x.key ≡ Some t) × IsServedScript problems journal t number x.key x.budget x.commands y

-- the session of the script at this place ended: its transcript, if there was memory for it, is told by what its pass has seen, and
-- its searches have learnt as many steps as its commands may take, or fewer
pub record IsEnded (lock : TableId) (base : Option (List Bounded)) (number : ℕ) (ts : List Translated) (scripts : List SessionScript) (place : ℕ) (seat : Seat) : Type 0 where
  pub out : IsOut lock base seat
  pub number_is : seat.pass.view.number ≡ number
  pub script : SessionScript
  pub at : slice_get scripts place ≡ Some script
  pub told : IfSome seat.transcript (λ y. IsTranscriptOf out.idle.problems seat.pass.view.seen ts number script y)
  pub counted : seat.count ≤ allowed script.budget script.commands

-- the pass was taken back by one that has seen this journal, in which the entries under its number are its own
pub record IsBack (journal : List Noted) (seat : Seat) : Type 0 where
  pub seen : IsPrefix seat.pass.view.seen journal
  pub own : of_pass (λ x. x.by) seat.pass.view.number journal ≡ seat.pass.view.own

-- there is a transcript, and it stands before the others
abbrev pub IsInFront : Option Transcript → Result (Vec Transcript Global) AllocError → Vec Transcript Global → Type 0
IsInFront first others all = (x : Transcript) × (xs : Vec Transcript Global) × (first ≡ Some x) × (others ≡ Ok xs) × (all.items ≡ x ∷ xs.items)

-- how many steps the sessions of the seats have learnt together
abbrev pub counted_in : List Seat → ℕ
counted_in [] = 0
counted_in (seat ∷ seats) = seat.count + counted_in seats

-- what holds of the seat at each place
abbrev pub EachSeat : (ℕ → Seat → Type 0) → List Seat → Type 0
EachSeat P seats = (k : ℕ) (d : Seat) → k < length seats → P k (slice_index_or seats k d)
