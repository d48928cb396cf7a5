-- What a pass of a hub keeps from turn to turn, and what a turn adds.
use Rattle.std.specs.Prelude.{◌≡◌, ◌⊎◌, ℕ, List, [], ◌∷◌, ◌++◌, Some, None, slice_get}
use mathlib.Core.List.{IsPrefix}
use Rattle.atomic_table.specs.Seated.{TableId}
use Rattle.hub_lock.specs.Passes.{PassView, of_pass, moved, IsStep}
use Rattle.rel_formula.specs.Bounds.{Bounded}
use Rattle.translation_rules.specs.Translation.{Translated}
use Rattle.hub_state.specs.Journal.Noted.{Note, Noted, Published}
use Rattle.hub_state.specs.Journal.Journal.{IsLegal, MayFollow}
use Rattle.hub_state.specs.HubView.{HubView, HasTranslation}

-- the pass is one of this lock, and out of turn; what it has seen is a legal journal over the problems, in which the entries
-- under its number are its own
pub record IsIdle (lock : TableId) (p : PassView Noted (List Bounded)) : Type 0 where
  pub lock_is : p.lock ≡ lock
  pub idle : p.view.turn ≡ None
  pub problems : List Bounded
  pub base_is : p.view.base ≡ Some problems
  pub legal : IsLegal problems p.view.seen
  pub own : of_pass (λ x. x.by) p.view.number p.view.seen ≡ p.view.own

-- turns went by: the pass is idle again, has seen more, and nothing else has changed of it but its own entries
pub record WentOn (lock : TableId) (old new : PassView Noted (List Bounded)) : Type 0 where
  pub idle : IsIdle lock new
  pub same : new.view ≡ moved old.view new.view.seen new.view.own old.view.turn
  pub seen : IsPrefix old.view.seen new.view.seen

-- one entry was added under the pass's number
abbrev pub HasAdded : PassView Noted (List Bounded) → PassView Noted (List Bounded) → Note → Type 0
HasAdded old new note = new.view.own ≡ old.view.own ++ record { by = old.view.number; note = note } ∷ []

-- the key had no translation, and this one was put there and is kept; or one was there, and nothing was added
abbrev pub HasPublished : PassView Noted (List Bounded) → PassView Noted (List Bounded) → ℕ → Translated → Translated → Type 0
HasPublished old new key t kept = (¬ HasTranslation old.view.seen key × HasAdded old new (Published key t) × (kept ≡ t)) ⊎ (new.view.own ≡ old.view.own)

-- the problem of the key is that of the translation
abbrev pub IsOfKey : PassView Noted (List Bounded) → ℕ → Translated → Type 0
IsOfKey p key t = (problems : List Bounded) × (p.view.base ≡ Some problems) × (slice_get problems key ≡ Some t.problem)

-- by all that the pass has seen, it may add this entry
abbrev pub MayAdd : PassView Noted (List Bounded) → Note → Type 0
MayAdd p note = (problems : List Bounded) × (p.view.base ≡ Some problems) × MayFollow problems p.view.seen p.view.number note

-- what a turn leaves of the hub that it found: the problems, and the entries with none or one more under this number, which
-- are a legal journal
pub record Leaves (by : ℕ) (found left : HubView) : Type 0 where
  pub problems : left.problems ≡ found.problems
  pub more : List Noted
  pub journal : left.journal ≡ found.journal ++ more
  pub step : IsStep (λ x. x.by) by more
  pub legal : IsLegal left.problems left.journal
