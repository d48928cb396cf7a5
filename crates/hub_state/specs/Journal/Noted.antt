-- What contracts see of an entry of the journal: of a publication also the translation.
use Rattle.std.specs.Prelude.{ℕ, List}
use Rattle.refutation_check.specs.declared.log.Step.{Step as LogStep}
use Rattle.translation_rules.specs.Translation.{Translated}
use Rattle.session_words.specs.declared.steps.Step.{Step}
use Rattle.session_rules.specs.declared.answers.Reply.{Reply}
use Rattle.hub_state.specs.declared.journal_rules.event.Event.{Event}
use Rattle.hub_state.specs.declared.journal_rules.event.Event.TheVariants.{Published as WasPublished, Imported as WasImported, Shared as WasShared, Opened as WasOpened, Recorded as WasRecorded}
use Rattle.hub_state.specs.declared.journal_rules.event.Entry.{Entry}

-- what happened, by the key or the session's step
pub data Note : Type 0 where
  Published : (key : ℕ) (translation : Translated) → Note
  Imported : (key steps : ℕ) → Note
  Shared : (key : ℕ) (steps : List LogStep) → Note
  Opened : (key budget : ℕ) → Note
  Recorded : (step : Step) (reply : Reply) → Note

-- the session's number, and what happened
pub record Noted : Type 0 where
  pub by : ℕ
  pub note : Note

-- what happened, without the translation
abbrev pub event_of : Note → Event
event_of (Published key translation) = WasPublished key
event_of (Imported key steps) = WasImported key steps
event_of (Shared key steps) = WasShared key steps
event_of (Opened key budget) = WasOpened key budget
event_of (Recorded step reply) = WasRecorded step reply

-- the entry, without the translation
abbrev pub entry_of : Noted → Entry
entry_of x = record { by = x.by; event = event_of x.note }
