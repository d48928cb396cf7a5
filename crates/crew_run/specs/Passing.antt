-- What the journal is while a lock keeps it, what a worker has read of it, and what a turn leaves.
use Rattle.std.specs.Prelude.{◌≡◌, ◌≢◌, ◌≤◌, ℕ, List, [], ◌∷◌, ◌++◌, take, length, Option, Some, None}
use mathlib.Core.List.{IsPrefix}
use Rattle.atomic_table.specs.Seated.{TableId}
use Rattle.hub_lock.specs.Passes.{PassView, of_pass, moved, IsStep}
use Rattle.session_rules.specs.ProofOfEnd.{ProofOfEnd}
use Rattle.crew_run.specs.declared.event.CrewEvent.TheVariants.{Ended}
use Rattle.crew_run.specs.declared.event.CrewEntry.{CrewEntry}
use Rattle.crew_run.specs.declared.journal.CrewTask.{CrewTask}
use Rattle.crew_run.specs.declared.reading.Reading.{Reading}
use Rattle.crew_run.specs.Crew.{found, told, IsCrewJournal}

-- what the workers are at, and what they have written down
pub record Journaled : Type 0 where
  pub task : CrewTask
  pub entries : List CrewEntry

-- the entries are a crew's journal on this task
abbrev pub IsJournalOf : CrewTask → List CrewEntry → Type 0
IsJournalOf task entries = IsCrewJournal task.translation task.budget task.most entries

-- what was read are the first entries of this list
pub record HasRead (entries : List CrewEntry) (reading : Reading) : Type 0 where
  pub within : reading.read ≤ length entries
  pub found_is : reading.found.items ≡ found (take reading.read entries)
  pub told_is : reading.told.items ≡ told (take reading.read entries)

-- the last entry is an end, with this proof
abbrev pub EndsWith : List CrewEntry → ProofOfEnd → Type 0
EndsWith entries proof = (before : List CrewEntry) × (by : ℕ) × (entries ≡ before ++ record { by = by; event = Ended proof } ∷ [])

-- all of it was read
pub record HasReadAll (entries : List CrewEntry) (reading : Reading) : Type 0 where
  pub all : reading.read ≡ length entries
  pub found_is : reading.found.items ≡ found entries
  pub told_is : reading.told.items ≡ told entries

abbrev pub Seen : Type 0
Seen = PassView CrewEntry CrewTask

-- the pass is one of this lock, and out of turn
pub record IsIdle (lock : TableId) (p : Seen) : Type 0 where
  pub lock_is : p.lock ≡ lock
  pub idle : p.view.turn ≡ None

-- a turn went by: the pass is idle again, has seen more, and nothing else has changed of it but its own entries, which are those
-- under its number; and what it has seen is a crew's journal
pub record WentOn (lock : TableId) (old new : Seen) : Type 0 where
  pub idle : IsIdle lock new
  pub same : new.view ≡ moved old.view new.view.seen new.view.own old.view.turn
  pub seen : IsPrefix old.view.seen new.view.seen
  pub own : of_pass (λ e. e.by) new.view.number new.view.seen ≡ new.view.own
  pub legal : (task : CrewTask) → old.view.base ≡ Some task → IsJournalOf task new.view.seen

-- what a turn leaves of the journal that it found: the task, and the entries with none or one more under this number
pub record Leaves (by : ℕ) (before after : Journaled) : Type 0 where
  pub task : after.task ≡ before.task
  pub more : List CrewEntry
  pub entries : after.entries ≡ before.entries ++ more
  pub step : IsStep (λ e. e.by) by more
  pub legal : IsJournalOf after.task after.entries

-- a pass of this lock round a value with this base, out of turn, which is not the first one
pub record IsReady (lock : TableId) (base : Option CrewTask) (p : Seen) : Type 0 where
  pub idle : IsIdle lock p
  pub number : p.view.number ≢ 0
  pub base_is : p.view.base ≡ base

-- the first pass, out of turn, which has made so many passes, of which so many are out, and has no entries of its own
pub record IsRoot (lock : TableId) (base : Option CrewTask) (count out : ℕ) (p : Seen) : Type 0 where
  pub idle : IsIdle lock p
  pub number : p.view.number ≡ 0
  pub base_is : p.view.base ≡ base
  pub made : p.view.made ≡ count
  pub live : p.view.live ≡ out
  pub own : p.view.own ≡ []
