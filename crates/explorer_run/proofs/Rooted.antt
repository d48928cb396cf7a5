-- The first pass, between turns, splits and joins.
use Rattle.std.proofs.Common.{◌≡◌, inl, inr, ℕ, Some, List, [], ◌∷◌, ◌++◌, map, length, All, get_or, refl, sym, ◌∙◌, ap, subst, ◌<◌}
use Rattle.std.specs.Prelude.{slice_get}
use Rattle.std.specs.declared.sync.Arc.{Arc}
use Rattle.std.proofs.lemmas.List.{map-append, length-map}
use Rattle.std.proofs.lemmas.List.Elements.{All-nil, All-cons, All-append}
use Rattle.std.proofs.lemmas.Option.{slice_get-map, slice_get_read}
use Rattle.std.specs.Option.{option_map}
use mathlib.Core.List.{IsPrefix}
use base.Growing.{prefix_refl}
use Rattle.atomic_table.specs.Seated.{TableId}
use Rattle.hub_lock.specs.declared.view.View.{View}
use Rattle.hub_lock.specs.Passes.{PassView, first_view, splitting, joining}
use Rattle.rel_formula.specs.Bounds.{Bounded}
use Rattle.translation_rules.specs.Translation.{Translated}
use Rattle.hub_state.specs.Journal.Noted.{Note, Noted, Published}
use Rattle.hub_state.specs.Journal.Journal.{IsPublished}
use Rattle.hub_turns.specs.Turned.{IsIdle, WentOn, HasPublished}
use Rattle.hub_turns.proofs.OwnEntries.{published_grows}
use Rattle.explorer_run.specs.Served.{ArePublished, values_of}
use Rattle.explorer_run.specs.Seats.{HasPublishedOnly, IsRoot, StaysRoot, IsNewRoot}
use Rattle.explorer_run.proofs.Places.{get_before_or_last}

abbrev pub Seen : Type 0
Seen = PassView Noted (List Bounded)

abbrev V : Type 0
V = View Noted (List Bounded)

abbrev note_of : Noted → Note
note_of x = x.note

abbrev pub IsPublication : Note → Type 0
IsPublication note = (key : ℕ) × (t : Translated) × (note ≡ Published key t)

-- ---- publications

-- a pass without entries
pub nothing_else : (p : Seen) → p.view.own ≡ [] → HasPublishedOnly p
nothing_else p none = subst (λ (es : List Noted). All IsPublication (map note_of es)) (sym none) (All-nil IsPublication)

-- it publishes one more, or none
pub publishes_only : (old new : Seen) (key : ℕ) (t kept : Translated) → HasPublished old new key t kept → HasPublishedOnly old → HasPublishedOnly new
publishes_only old new key t kept (inl (none, added, is)) own =
    let last : Noted = record { by = old.view.number; note = Published key t } in
    subst (All IsPublication) (sym (ap (map note_of) added ∙ map-append note_of old.view.own (last ∷ [])))
    (All-append IsPublication (map note_of old.view.own) (Published key t ∷ []) own (All-cons IsPublication (Published key t) [] (key, t, refl) (All-nil IsPublication)))
publishes_only old new key t kept (inr same) own = subst (λ (es : List Noted). All IsPublication (map note_of es)) (sym same) own

pub publishes_nothing : (old new : Seen) → new.view.own ≡ old.view.own → HasPublishedOnly old → HasPublishedOnly new
publishes_nothing old new same own = subst (λ (es : List Noted). All IsPublication (map note_of es)) (sym same) own

-- what was published stays so
pub published_still : (seen more : List Noted) (ts : List Translated) → IsPrefix seen more → ArePublished seen ts → ArePublished more ts
published_still seen more ts begins were key t at = published_grows seen more begins key t (were key t at)

pub published_one_more : {A : Type 0} (seen more : List Noted) (ts : List (Arc Translated A)) (one : Arc Translated A) → IsPrefix seen more → ArePublished seen (values_of ts) → IsPublished more (length ts) one.value → ArePublished more (values_of (ts ++ one ∷ []))
published_one_more {A} seen more ts one begins were here key t at =
    let value : Arc Translated A → Translated = λ a. a.value in
    let at' : slice_get (values_of ts ++ one.value ∷ []) key ≡ Some t = subst (λ (us : List Translated). slice_get us key ≡ Some t) (map-append value ts (one ∷ [])) at in
    elim (get_before_or_last (values_of ts) one.value key t at') [
      | inl before ↦ published_grows seen more begins key t (were key t before)
      | inr last ↦
          let place : length ts ≡ key = sym (last.0 ∙ length-map ts value) in
          subst (λ (k : ℕ). IsPublished more k t) place (subst (IsPublished more (length ts)) last.1 here)
    ]

-- the problem of the translation at a place
pub problem_at : {A : Type 0} (ts : List (Arc Translated A)) (i : ℕ) (item : Arc Translated A) → i < length ts → item ≡ get_or ts i item → slice_get (map (λ (t : Translated). t.problem) (values_of ts)) i ≡ Some item.value.problem
problem_at {A} ts i item within is =
    slice_get-map (λ (t : Translated). t.problem) (values_of ts) i
    ∙ ap (option_map (λ (t : Translated). t.problem)) (slice_get-map (λ (a : Arc Translated A). a.value) ts i ∙ ap (option_map (λ (a : Arc Translated A). a.value)) (slice_get_read ts (length ts) i item refl within is))

-- ---- the first pass

pub root_again : (lock : TableId) (ts : List Translated) (old new : Seen) → IsRoot lock ts old → IsIdle lock new → new.view.number ≡ old.view.number → new.view.own ≡ old.view.own → IsPrefix old.view.seen new.view.seen → IsRoot lock ts new
root_again lock ts old new root idle number own seen = record {
  idle = idle;
  number = number ∙ root.number;
  own = publishes_nothing old new own root.own;
  published = published_still old.view.seen new.view.seen ts seen root.published;
}

pub stays_root : (lock : TableId) (ts : List Translated) (p : Seen) → IsRoot lock ts p → StaysRoot lock ts p p
stays_root lock ts p root = record { root = root; base = refl }

pub stays_then : (lock : TableId) (ts : List Translated) (a b c : Seen) → StaysRoot lock ts a b → StaysRoot lock ts b c → StaysRoot lock ts a c
stays_then lock ts a b c first then' = record { root = then'.root; base = then'.base ∙ first.base }

pub root_splits : (lock : TableId) (ts : List Translated) (old new : Seen) → IsRoot lock ts old → IsIdle lock new → new.view ≡ splitting old.view → StaysRoot lock ts old new
root_splits lock ts old new root idle is = record {
  root = root_again lock ts old new root idle (ap (λ (v : V). v.number) is) (ap (λ (v : V). v.own) is) (subst (IsPrefix old.view.seen) (sym (ap (λ (v : V). v.seen) is)) (prefix_refl old.view.seen));
  base = ap (λ (v : V). v.base) is;
}

pub root_joins : (lock : TableId) (ts : List Translated) (old new : Seen) (other : V) → IsRoot lock ts old → IsIdle lock new → new.view ≡ joining old.view other → IsPrefix old.view.seen new.view.seen → StaysRoot lock ts old new
root_joins lock ts old new other root idle is seen = record {
  root = root_again lock ts old new root idle (ap (λ (v : V). v.number) is) (ap (λ (v : V). v.own) is) seen;
  base = ap (λ (v : V). v.base) is;
}

pub root_gathers : (lock : TableId) (ts : List Translated) (old new : Seen) → IsRoot lock ts old → IsIdle lock new → new.view.number ≡ 0 → new.view.base ≡ old.view.base → new.view.own ≡ old.view.own → IsPrefix old.view.seen new.view.seen → StaysRoot lock ts old new
root_gathers lock ts old new root idle number base own seen = record { root = root_again lock ts old new root idle (number ∙ sym root.number) own seen; base = base }

-- a pass that published a translation for each key
pub root_publishes : (lock : TableId) (problems : List Bounded) (ts : List Translated) (old new : Seen) → WentOn lock old new → old.view ≡ first_view problems → HasPublishedOnly new → ArePublished new.view.seen ts → length ts ≡ length problems → IsNewRoot lock problems ts new
root_publishes lock problems ts old new went is own were keys = record {
  root = record { idle = went.idle; number = ap (λ (v : V). v.number) went.same ∙ ap (λ (v : V). v.number) is; own = own; published = were };
  base = ap (λ (v : V). v.base) went.same ∙ ap (λ (v : V). v.base) is;
  keys = keys;
  made = ap (λ (v : V). v.made) went.same ∙ ap (λ (v : V). v.made) is;
  live = ap (λ (v : V). v.live) went.same ∙ ap (λ (v : V). v.live) is;
}
