-- What a hub keeps when an entry of each kind is appended, and what contracts see of it then.
use Rattle.std.proofs.Common.{◌≡◌, ◌≢◌, ◌⊎◌, inl, inr, ◌<◌, ◌≤◌, ℕ, Option, None, Some, List, [], ◌∷◌, ◌++◌, length, get_or, set, refl, sym, ◌∙◌, ap, subst, arith}
use Rattle.std.specs.Prelude.{IsSomeAnd, IfSome, slice_get}
use Rattle.std.proofs.lemmas.Bool.{cases_lt}
use Rattle.std.proofs.lemmas.List.{get_or_past, get_or_default}
use Rattle.std.proofs.lemmas.List.Elements.{Contains-push}
use Rattle.std.proofs.lemmas.Option.{none-some, slice_get_within}
use Rattle.refutation_check.specs.declared.log.Step.{Step as LogStep}
use Rattle.rel_formula.specs.Bounds.{Bounded}
use Rattle.translation_rules.specs.Translation.{Translated, StandsFor}
use Rattle.hub_state.specs.declared.journal_rules.event.Entry.{Entry}
use Rattle.hub_state.specs.declared.journal_rules.event.Event.{Event}
use Rattle.hub_state.specs.declared.journal_rules.event.Event.TheVariants.{Published as WasPublished, Imported as WasImported, Shared as WasShared, Opened as WasOpened, Recorded as WasRecorded}
use Rattle.hub_state.specs.Journal.Noted.{Note, Published, Imported, Shared, Opened, Recorded, Noted}
use Rattle.hub_state.specs.Journal.Journal.{IsPublished, IsLegal, MayFollow, Shares, pool_of}
use Rattle.hub_state.specs.HubView.{HubView, with_entry, HasTranslation, IsPublishing, note_to_record}
use Rattle.hub_state.specs.Held.{noted_with, translations_in, journal_of, IsHub}
use Rattle.hub_state.proofs.Journals.{one_more, first_publication}
use Rattle.hub_state.proofs.GrowingJournals.{quiet, sharing, publishing}

abbrev pub entry : ℕ → Event → Entry
entry by event = record { by = by; event = event }

abbrev pub seen : List Bounded → List Noted → HubView
seen problems journal = record { problems = problems; journal = journal }

-- a legal journal grows by an entry that may follow
abbrev pub Grows : Type 0
Grows = (problems : List Bounded) (journal : List Noted) (x : Noted) → IsLegal problems journal → MayFollow problems journal x.by x.note → IsLegal problems (journal ++ x ∷ [])

module _ (grows : Grows) (problems : List Bounded) (kept : List (Option Translated)) (pools : List (List LogStep)) (es : List Entry) (held : IsHub problems kept pools (journal_of kept es)) where
  -- a key with a translation is one of a problem
  pub inside_kept : (key : ℕ) (t : Translated) → IsPublished (journal_of kept es) key t → key < length kept
  inside_kept key t there = elim (cases_lt key (length kept)) [
    | inl less ↦ less
    | inr past ↦ absurd (none-some t (sym (get_or_past kept key None past) ∙ held.translation key t there))
  ]

  pub inside : (key : ℕ) (t : Translated) → IsPublished (journal_of kept es) key t → key < length pools
  inside key t there = let less = inside_kept key t there in let a = held.keys in let b = held.keys_of_pools in omega arith

  -- the key's pool is what was shared for it
  pub pool_there : (key : ℕ) (t : Translated) → IsPublished (journal_of kept es) key t → get_or pools key [] ≡ pool_of key (journal_of kept es)
  pool_there key t there = held.each_pool key (inside key t there)

  pub pool_read : (key : ℕ) (t : Translated) → IsPublished (journal_of kept es) key t → (pool : List LogStep) → pool ≡ get_or pools key pool → pool ≡ pool_of key (journal_of kept es)
  pool_read key t there pool is = is ∙ get_or_default pools key pool [] (inside key t there) ∙ pool_there key t there

  appended : (by : ℕ) (event : Event) (note : Note) → noted_with (translations_in kept) (entry by event) ≡ record { by = by; note = note } →
      journal_of kept (es ++ entry by event ∷ []) ≡ journal_of kept es ++ record { by = by; note = note } ∷ []
  appended by event note is = one_more kept es (entry by event) ∙ ap (λ (x : Noted). journal_of kept es ++ x ∷ []) is

  -- an opening or an exchange
  pub recorded : (by : ℕ) (event : Event) → IsSomeAnd (note_to_record event) (λ note. MayFollow problems (journal_of kept es) by note) → IsHub problems kept pools (journal_of kept (es ++ entry by event ∷ []))
  recorded by (WasPublished key) may = absurd may
  recorded by (WasImported key steps) may = absurd may
  recorded by (WasShared key steps) may = absurd may
  recorded by (WasOpened key budget) may =
      let x : Noted = record { by = by; note = Opened key budget } in
      subst (IsHub problems kept pools) (sym (appended by (WasOpened key budget) (Opened key budget) refl))
      (quiet problems kept pools (journal_of kept es) held x (grows problems (journal_of kept es) x held.legal may) (λ k t e. cc) (λ k. refl))
  recorded by (WasRecorded step reply) may =
      let x : Noted = record { by = by; note = Recorded step reply } in
      subst (IsHub problems kept pools) (sym (appended by (WasRecorded step reply) (Recorded step reply) refl))
      (quiet problems kept pools (journal_of kept es) held x (grows problems (journal_of kept es) x held.legal may) (λ k t e. cc) (λ k. refl))

  pub recorded_view : (by : ℕ) (event : Event) → IfSome (note_to_record event) (λ note. seen problems (journal_of kept (es ++ entry by event ∷ [])) ≡ with_entry (seen problems (journal_of kept es)) by note)
  recorded_view by (WasPublished key) = tt
  recorded_view by (WasImported key steps) = tt
  recorded_view by (WasShared key steps) = tt
  recorded_view by (WasOpened key budget) = ap (seen problems) (appended by (WasOpened key budget) (Opened key budget) refl)
  recorded_view by (WasRecorded step reply) = ap (seen problems) (appended by (WasRecorded step reply) (Recorded step reply) refl)

  -- an import
  pub imported : (by key steps : ℕ) → HasTranslation (journal_of kept es) key → steps ≡ length (pool_of key (journal_of kept es)) → IsHub problems kept pools (journal_of kept (es ++ entry by (WasImported key steps) ∷ []))
  imported by key steps has whole =
      let x : Noted = record { by = by; note = Imported key steps } in
      let may : MayFollow problems (journal_of kept es) by (Imported key steps) = record { translation = has.0; published = has.1; whole = whole } in
      subst (IsHub problems kept pools) (sym (appended by (WasImported key steps) (Imported key steps) refl))
      (quiet problems kept pools (journal_of kept es) held x (grows problems (journal_of kept es) x held.legal may) (λ k t e. cc) (λ k. refl))

  pub imported_view : (by key steps : ℕ) → seen problems (journal_of kept (es ++ entry by (WasImported key steps) ∷ [])) ≡ with_entry (seen problems (journal_of kept es)) by (Imported key steps)
  imported_view by key steps = ap (seen problems) (appended by (WasImported key steps) (Imported key steps) refl)

  -- shared steps
  pub shared : (by key : ℕ) (steps : List LogStep) → Shares (journal_of kept es) key steps → IsHub problems kept (set pools key (pool_of key (journal_of kept es) ++ steps)) (journal_of kept (es ++ entry by (WasShared key steps) ∷ []))
  shared by key steps shares =
      let x : Noted = record { by = by; note = Shared key steps } in
      subst (IsHub problems kept (set pools key (pool_of key (journal_of kept es) ++ steps))) (sym (appended by (WasShared key steps) (Shared key steps) refl))
      (sharing problems kept pools (journal_of kept es) held key by steps (inside key shares.translation shares.published) (grows problems (journal_of kept es) x held.legal shares))

  pub shared_view : (by key : ℕ) (steps : List LogStep) → seen problems (journal_of kept (es ++ entry by (WasShared key steps) ∷ [])) ≡ with_entry (seen problems (journal_of kept es)) by (Shared key steps)
  shared_view by key steps = ap (seen problems) (appended by (WasShared key steps) (Shared key steps) refl)

  -- a first publication
  none_before : (key : ℕ) → None ≡ get_or kept key None → (u : Translated) → ¬ IsPublished (journal_of kept es) key u
  none_before key free u there = none-some u (free ∙ held.translation key u there)

  pub key_inside : (key : ℕ) (p : Bounded) → slice_get problems key ≡ Some p → key < length kept
  key_inside key p of_key = let less = slice_get_within problems key p of_key in let same = held.keys in omega arith

  pub published : (by key : ℕ) (t : Translated) → None ≡ get_or kept key None → slice_get problems key ≡ Some t.problem → StandsFor t.problem t →
      IsHub problems (set kept key (Some t)) pools (journal_of (set kept key (Some t)) (es ++ entry by (WasPublished key) ∷ []))
  published by key t free of_key stands =
      let x : Noted = record { by = by; note = Published key t } in
      let less : key < length kept = key_inside key t.problem of_key in
      let may : MayFollow problems (journal_of kept es) by (Published key t) = record { problem = t.problem; of_key = of_key; stands = stands; first = none_before key free } in
      subst (IsHub problems (set kept key (Some t)) pools) (sym (first_publication kept es key by t less (none_before key free)))
      (publishing problems kept pools (journal_of kept es) held key by t (sym free) less (grows problems (journal_of kept es) x held.legal may))

  pub published_view : (by key : ℕ) (t : Translated) → None ≡ get_or kept key None → slice_get problems key ≡ Some t.problem → (first : Translated) → first ≡ t →
      IsPublishing (seen problems (journal_of kept es)) by key t (seen problems (journal_of (set kept key (Some t)) (es ++ entry by (WasPublished key) ∷ []))) first
  published_view by key t free of_key first same = inl (
    λ has. none_before key free has.0 has.1,
    ap (seen problems) (first_publication kept es key by t (key_inside key t.problem of_key) (none_before key free)),
    same,
  )

  pub published_there : (by key : ℕ) (t : Translated) → None ≡ get_or kept key None → slice_get problems key ≡ Some t.problem → (first : Translated) → first ≡ t →
      IsPublished (journal_of (set kept key (Some t)) (es ++ entry by (WasPublished key) ∷ [])) key first
  published_there by key t free of_key first same =
      let x : Noted = record { by = by; note = Published key t } in
      let there : IsPublished (journal_of kept es ++ x ∷ []) key t = (by, Contains-push (journal_of kept es) x) in
      subst (λ (j : List Noted). IsPublished j key first) (sym (first_publication kept es key by t (key_inside key t.problem of_key) (none_before key free)))
      (subst (λ (u : Translated). IsPublished (journal_of kept es ++ x ∷ []) key u) (sym same) there)
