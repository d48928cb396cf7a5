-- What contracts see of a hub, and what its calls ask for and append.
use Rattle.std.specs.Prelude.{◌≡◌, ◌⊎◌, ◌≤◌, ◌++◌, ◌∷◌, [], ℕ, List, Option, Some, None, length, take}
use Rattle.refutation_check.specs.declared.log.Step.{Step as LogStep}
use Rattle.refutation_check.specs.Chain.{members_of, IsAccepted}
use Rattle.clause_pool.specs.Limits.{moved_behind}
use Rattle.rel_formula.specs.Bounds.{Bounded}
use Rattle.translation_rules.specs.Translation.{Translated}
use Rattle.hub_state.specs.declared.journal_rules.event.Event.{Event}
use Rattle.hub_state.specs.declared.journal_rules.event.Event.TheVariants.{Published as WasPublished, Imported as WasImported, Shared as WasShared, Opened as WasOpened, Recorded as WasRecorded}
use Rattle.hub_state.specs.Journal.Noted.{Note, Published, Opened, Recorded, Noted}
use Rattle.hub_state.specs.Journal.Journal.{IsPublished, pool_of}

-- the problems, by key, and the journal, whose publications have their translations
pub record HubView : Type 0 where
  pub problems : List Bounded
  pub journal : List Noted

-- the hub with one more entry
abbrev pub with_entry : HubView → ℕ → Note → HubView
with_entry hub by note = record hub { journal = hub.journal ++ record { by = by; note = note } ∷ [] }

-- the key has a translation
abbrev pub HasTranslation : List Noted → ℕ → Type 0
HasTranslation journal key = (t : Translated) × IsPublished journal key t

-- where the key has no translation, one more entry puts this one there, and it is the one that is kept; where the key has
-- one, that is kept, and nothing changes
abbrev pub IsPublishing : HubView → ℕ → ℕ → Translated → HubView → Translated → Type 0
IsPublishing old by key t new kept =
    (¬ HasTranslation old.journal key × (new ≡ with_entry old by (Published key t)) × (kept ≡ t)) ⊎ (IsPublished old.journal key kept × (new ≡ old))

-- the key has a translation; the steps go on from the first so many of the key's pool, over the translation's clauses alone
pub record GoesOn (journal : List Noted) (key at : ℕ) (steps : List LogStep) : Type 0 where
  pub translation : Translated
  pub published : IsPublished journal key translation
  pub within : at ≤ length (pool_of key journal)
  pub accepted : IsAccepted (members_of translation.cnf.clauses (take at (pool_of key journal))) steps

-- steps that go on from the first so many of the key's pool, with hints that make room for its other steps
abbrev pub moved : List Noted → ℕ → Translated → ℕ → List LogStep → List LogStep
moved journal key t at steps = moved_behind (length t.cnf.clauses) at (pool_of key journal) steps

-- the note of an event that a session records: that it was opened, or a step with its reply
abbrev pub note_to_record : Event → Option Note
note_to_record (WasPublished key) = None
note_to_record (WasImported key steps) = None
note_to_record (WasShared key steps) = None
note_to_record (WasOpened key budget) = Some (Opened key budget)
note_to_record (WasRecorded step reply) = Some (Recorded step reply)
