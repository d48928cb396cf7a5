-- How a hub holds its journal: entries without translations, the translation of each key, and each key's pool.
use Rattle.std.specs.Prelude.{◌≡◌, ◌<◌, ℕ, List, [], Option, None, Some, length, map, flat_map, slice_index_or, unwrap_or}
use Rattle.refutation_check.specs.declared.log.Step.{Step as LogStep}
use Rattle.rel_formula.specs.Bounds.{Bounded}
use Rattle.rel_formula.specs.Kernel.{conjunction, no_formulas}
use Rattle.translation_rules.specs.Translation.{Translated}
use Rattle.hub_state.specs.declared.journal_rules.event.Entry.{Entry}
use Rattle.hub_state.specs.declared.journal_rules.event.Event.{Event}
use Rattle.hub_state.specs.declared.journal_rules.event.Event.TheVariants.{Published as WasPublished, Imported as WasImported, Shared as WasShared, Opened as WasOpened, Recorded as WasRecorded}
use Rattle.hub_state.specs.Journal.Noted.{Note, Published, Imported, Shared, Opened, Recorded, Noted}
use Rattle.hub_state.specs.Journal.Journal.{IsPublished, IsLegal, added_to, pool_of}

-- the translation, or where there is none one of a problem without relations: no entry of a hub needs it
abbrev pub translation_or : Option Translated → Translated
translation_or kept = unwrap_or kept (record {
  problem = record { relations = []; tops = []; formula = conjunction no_formulas };
  cnf = record { vars = 0; clauses = [] };
  swaps = [];
})

-- what happened, where keys have these translations
abbrev pub note_with : (ℕ → Translated) → Event → Note
note_with translations (WasPublished key) = Published key (translations key)
note_with translations (WasImported key steps) = Imported key steps
note_with translations (WasShared key steps) = Shared key steps
note_with translations (WasOpened key budget) = Opened key budget
note_with translations (WasRecorded step reply) = Recorded step reply

abbrev pub noted_with : (ℕ → Translated) → Entry → Noted
noted_with translations entry = record { by = entry.by; note = note_with translations entry.event }

-- the translation of each key
abbrev pub translations_in : List (Option Translated) → ℕ → Translated
translations_in kept key = translation_or (slice_index_or kept key None)

-- the journal of the entries, with the translations that are kept
abbrev pub journal_of : List (Option Translated) → List Entry → List Noted
journal_of kept entries = map (noted_with (translations_in kept)) entries

-- the steps that the entry adds to the key's pool
abbrev pub steps_added : ℕ → Entry → List LogStep
steps_added key entry = added_to key (note_with (translations_in []) entry.event)

-- the steps that the entries add to it, one after the other
abbrev pub steps_in : ℕ → List Entry → List LogStep
steps_in key entries = flat_map (steps_added key) entries

-- the journal is legal; a key has exactly the translation that was published for it; its pool is what was shared for it
pub record IsHub (problems : List Bounded) (kept : List (Option Translated)) (pools : List (List LogStep)) (journal : List Noted) : Type 0 where
  pub legal : IsLegal problems journal
  pub keys : length kept ≡ length problems
  pub keys_of_pools : length pools ≡ length problems
  pub published : (key : ℕ) (t : Translated) → slice_index_or kept key None ≡ Some t → IsPublished journal key t
  pub translation : (key : ℕ) (t : Translated) → IsPublished journal key t → slice_index_or kept key None ≡ Some t
  pub each_pool : (key : ℕ) → key < length pools → slice_index_or pools key [] ≡ pool_of key journal
