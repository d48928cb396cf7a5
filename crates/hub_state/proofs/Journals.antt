-- The journal of a hub's entries.
use Rattle.std.proofs.Common.{◌≡◌, ◌≢◌, ◌<◌, ℕ, suc, Option, None, Some, List, [], ◌∷◌, ◌++◌, length, get_or, set, map, Contains, refl, sym, ◌∙◌, ap, subst, arith}
use Rattle.std.proofs.Math.ListN.{get_or-map}
use Rattle.std.proofs.lemmas.List.{length-map, map-append, get_or-set_same, get_or-set_other}
use Rattle.std.proofs.lemmas.List.Elements.{Contains-append_left, Contains-append_right}
use Rattle.translation_rules.specs.Translation.{Translated}
use Rattle.hub_state.specs.declared.journal_rules.event.Entry.{Entry}
use Rattle.hub_state.specs.declared.journal_rules.event.Event.{Event}
use Rattle.hub_state.specs.declared.journal_rules.event.Event.TheVariants.{Published as WasPublished, Imported as WasImported, Shared as WasShared, Opened as WasOpened, Recorded as WasRecorded}
use Rattle.hub_state.specs.Journal.Noted.{Note, Published, Noted, event_of, entry_of}
use Rattle.hub_state.specs.Journal.Journal.{IsPublished}
use Rattle.hub_state.specs.Held.{note_with, noted_with, translation_or, translations_in, journal_of}

-- without translations the journal is the list of the entries
event_with : (f : ℕ → Translated) (e : Event) → event_of (note_with f e) ≡ e
event_with f (WasPublished key) = refl
event_with f (WasImported key steps) = refl
event_with f (WasShared key steps) = refl
event_with f (WasOpened key budget) = refl
event_with f (WasRecorded step reply) = refl

entry_with : (f : ℕ → Translated) (e : Entry) → entry_of (noted_with f e) ≡ e
entry_with f e = ap (λ (x : Event). record e { event = x }) (event_with f e.event)

pub entries_of : (kept : List (Option Translated)) (es : List Entry) → map entry_of (journal_of kept es) ≡ es
entries_of kept [] = refl
entries_of kept (e ∷ es) =
    ap (λ (x : Entry). x ∷ map entry_of (journal_of kept es)) (entry_with (translations_in kept) e)
    ∙ ap (λ (xs : List Entry). e ∷ xs) (entries_of kept es)

-- one more entry is one more in the journal
pub one_more : (kept : List (Option Translated)) (es : List Entry) (e : Entry) → journal_of kept (es ++ e ∷ []) ≡ journal_of kept es ++ noted_with (translations_in kept) e ∷ []
one_more kept es e = map-append (noted_with (translations_in kept)) es (e ∷ [])

contains_noted : (kept : List (Option Translated)) (es : List Entry) (e : Entry) → Contains es e → Contains (journal_of kept es) (noted_with (translations_in kept) e)
contains_noted kept es e (k, k_in, is) =
    let f = noted_with (translations_in kept) in
    (k, (let same = length-map es f in omega arith), get_or-map f es k e ∙ ap f is)

same_note : (f g : ℕ → Translated) (e : Event) → ((k : ℕ) → e ≡ WasPublished k → f k ≡ g k) → note_with f e ≡ note_with g e
same_note f g (WasPublished key) same = ap (Published key) (same key refl)
same_note f g (WasImported key steps) same = refl
same_note f g (WasShared key steps) same = refl
same_note f g (WasOpened key budget) same = refl
same_note f g (WasRecorded step reply) same = refl

abbrev with_note : ℕ → Note → Noted
with_note by note = record { by = by; note = note }

-- translations of keys that no entry publishes don't matter
same_journal : (f g : ℕ → Translated) (es : List Entry) → ((e : Entry) → Contains es e → (k : ℕ) → e.event ≡ WasPublished k → f k ≡ g k) → map (noted_with f) es ≡ map (noted_with g) es
same_journal f g [] same = refl
same_journal f g (e ∷ es) same =
    let note = same_note f g e.event (same e (Contains-append_left (e ∷ []) es e (0, omega arith, refl))) in
    let first : noted_with f e ≡ noted_with g e = ap (λ (n : Note). with_note e.by n) note in
    let rest : map (noted_with f) es ≡ map (noted_with g) es = same_journal f g es (λ x there. same x (Contains-append_right (e ∷ []) es x there)) in
    ap (λ (x : Noted). x ∷ map (noted_with f) es) first ∙ ap (λ (xs : List Noted). noted_with g e ∷ xs) rest

-- a key's first publication is one more entry in the journal
pub first_publication : (kept : List (Option Translated)) (es : List Entry) (key by : ℕ) (t : Translated) → key < length kept → ((u : Translated) → ¬ IsPublished (journal_of kept es) key u) →
    journal_of (set kept key (Some t)) (es ++ record { by = by; event = WasPublished key } ∷ []) ≡ journal_of kept es ++ record { by = by; note = Published key t } ∷ []
first_publication kept es key by t inside none =
    let more = set kept key (Some t) in
    let unpublished : (e : Entry) → Contains es e → (k : ℕ) → e.event ≡ WasPublished k → k ≢ key =
    λ e there k is same. none (translations_in kept key) (e.by, subst (λ (x : Event). Contains (journal_of kept es) (record { by = e.by; note = note_with (translations_in kept) x })) (is ∙ ap WasPublished same) (contains_noted kept es e there)) in
    let before : journal_of more es ≡ journal_of kept es =
    same_journal (translations_in more) (translations_in kept) es (λ e there k is. ap translation_or (get_or-set_other kept key k (Some t) None (unpublished e there k is))) in
    let last : translations_in more key ≡ t = ap translation_or (get_or-set_same kept key (Some t) None inside) in
    one_more more es (record { by = by; event = WasPublished key })
    ∙ ap (λ (j : List Noted). j ++ noted_with (translations_in more) (record { by = by; event = WasPublished key }) ∷ []) before
    ∙ ap (λ (u : Translated). journal_of kept es ++ record { by = by; note = Published key u } ∷ []) last
