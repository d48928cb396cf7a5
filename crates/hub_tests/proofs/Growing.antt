-- Hubs that grow by publications and other entries.
use Rattle.std.proofs.Common.{◌≡◌, inl, inr, ℕ, List, [], ◌∷◌, sym, ap, subst}
use Rattle.std.proofs.lemmas.List.Elements.{Contains-append_left}
use mathlib.Core.List.{IsPrefix}
use base.Growing.{prefix_refl, prefix_trans}
use Rattle.translation_rules.specs.Translation.{Translated}
use Rattle.hub_state.specs.Journal.Noted.{Note, Noted, Published}
use Rattle.hub_state.specs.Journal.Journal.{IsPublished, pool_of}
use Rattle.hub_state.specs.HubView.{HubView, IsPublishing, with_entry}
use Rattle.hub_turns.proofs.Going.{pool_grows}

pub publishing_keeps : (old new : HubView) (by key : ℕ) (t kept : Translated) → IsPublishing old by key t new kept → new.problems ≡ old.problems
publishing_keeps old new by key t kept is = elim is [ inl first ↦ ap (λ (h : HubView). h.problems) first.1 | inr again ↦ ap (λ (h : HubView). h.problems) again.1 ]

pub entry_grows : (old new : HubView) (by : ℕ) (note : Note) → new ≡ with_entry old by note → IsPrefix old.journal new.journal
entry_grows old new by note is = (record { by = by; note = note } ∷ [], ap (λ (h : HubView). h.journal) (sym is))

pub publishing_grows : (old new : HubView) (by key : ℕ) (t kept : Translated) → IsPublishing old by key t new kept → IsPrefix old.journal new.journal
publishing_grows old new by key t kept is = elim is [
  | inl first ↦ entry_grows old new by (Published key t) first.1
  | inr again ↦ subst (λ (h : HubView). IsPrefix old.journal h.journal) (sym again.1) (prefix_refl old.journal)
]

pub pool_begins : (a b c : HubView) → IsPrefix a.journal b.journal → IsPrefix b.journal c.journal → IsPrefix (pool_of 0 a.journal) (pool_of 0 c.journal)
pool_begins a b c first then' = pool_grows 0 a.journal c.journal (prefix_trans a.journal b.journal c.journal first then')

pub published_with : (old new : HubView) (by : ℕ) (note : Note) (key : ℕ) (t : Translated) → new ≡ with_entry old by note → IsPublished old.journal key t → IsPublished new.journal key t
published_with old new by note key t is there =
    let x : Noted = record { by = by; note = note } in
    subst (λ (h : HubView). IsPublished h.journal key t) (sym is) (there.0, Contains-append_left old.journal (x ∷ []) (record { by = there.0; note = Published key t }) there.1)
