-- Sessions that were served over one hub.
use Rattle.std.specs.Prelude.{◌≡◌, ◌+◌, ◌<◌, ◌≤◌, ◌^◌, ℕ, List, [], ◌∷◌, Some, length, map, slice_get, All}
use Rattle.std.specs.declared.sync.Arc.{Arc}
use Rattle.rel_formula.specs.Bounds.{Bounded}
use Rattle.rel_formula.specs.Renaming.{IsSymmetric}
use Rattle.rel_terms.specs.Terms.{IsTranslatable}
use Rattle.translation_rules.specs.Translation.{Translated}
use Rattle.script_format.specs.Limits.{IsAllowed, asked_by}
use Rattle.script_format.specs.Reading.{most_asked}
use Rattle.session_rules.specs.declared.script.SessionScript.{SessionScript}
use Rattle.session_rules.specs.declared.script.Transcript.{Transcript}
use Rattle.hub_state.specs.Journal.Noted.{Noted}
use Rattle.hub_state.specs.Journal.Journal.{IsPublished}
use Rattle.hub_turns.specs.Interleaved.{IsInterleaving}
use Rattle.session_turns.specs.Allowed.{allowed}
use Rattle.session_turns.specs.Served.{IsServedScript}
use Rattle.explorer_run.specs.declared.sessions.Served.{Served}

-- the problem can be translated
pub record IsServable (p : Bounded) : Type 0 where
  pub translatable : IsTranslatable p
  pub symmetric : IsSymmetric p

-- a session that can be served where there are so many keys
pub record IsServableScript (keys : ℕ) (x : SessionScript) : Type 0 where
  pub key : x.key < keys
  pub budget : x.budget ≤ 100000
  pub allowed : All IsAllowed x.commands
  pub asked : asked_by x.commands ≤ most_asked
  pub few : length x.commands < 2 ^ 32

-- what the commands of all sessions may take together
abbrev pub allowed_in : List SessionScript → ℕ
allowed_in [] = 0
allowed_in (x ∷ xs) = allowed x.budget x.commands + allowed_in xs

-- the translations that shared pointers point to
abbrev pub values_of : {A : Type 0} → List (Arc Translated A) → List Translated
values_of ts = map (λ t. t.value) ts

-- the translation of each key
abbrev pub translations_of : Served → List Translated
translations_of s = values_of s.translations.items

-- each key has the translation that was published for it
abbrev pub ArePublished : List Noted → List Translated → Type 0
ArePublished journal translations = (key : ℕ) (t : Translated) → slice_get translations key ≡ Some t → IsPublished journal key t

-- the sessions have the numbers from this one on, in order; each was served over the translation of its key
abbrev pub AreServedFrom : List Bounded → List Noted → List Translated → ℕ → List SessionScript → List Transcript → Type 0
AreServedFrom problems journal translations number [] [] = Unit {0}
AreServedFrom problems journal translations number (x ∷ xs) (y ∷ ys) =
    ((t : Translated) × (slice_get translations x.key ≡ Some t) × IsServedScript problems journal t number x.key x.budget x.commands y)
    × AreServedFrom problems journal translations (number + 1) xs ys
AreServedFrom problems journal translations number xs ys = ⊥

-- one journal, an interleaving of what the sessions did, tells their transcripts; each key has one translation in it
pub record AreServed (problems : List Bounded) (scripts : List SessionScript) (s : Served) : Type 0 where
  pub journal : List Noted
  pub interleaving : IsInterleaving problems journal (length scripts)
  pub keys : length (translations_of s) ≡ length problems
  pub published : ArePublished journal (translations_of s)
  pub sessions : AreServedFrom problems journal (translations_of s) 1 scripts s.transcripts.items
