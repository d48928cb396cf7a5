-- What a session imported, and what it recorded, while the journal grows.
use Rattle.std.proofs.Common.{◌≡◌, ◌≢◌, inl, inr, ◌+◌, ◌≤◌, ◌==◌, if◌then◌else◌, ℕ, false, List, [], ◌∷◌, ◌++◌, length, take, All, append-nil, append_assoc, length-append, refl, sym, ◌∙◌, ap, arith}
use Rattle.std.proofs.lemmas.Bool.{ne_eqb}
use Rattle.std.proofs.lemmas.Grind.{flat_map-append}
use Rattle.std.proofs.lemmas.List.{take-append-le, length-take-le}
use Rattle.std.proofs.lemmas.List.Elements.{All-head, All-tail, Contains-append_left, Contains-append_cases}
use Rattle.refutation_check.specs.declared.log.Step.{Step as LogStep}
use Rattle.rel_formula.specs.Bounds.{Bounded}
use Rattle.translation_rules.specs.Translation.{Translated}
use Rattle.session_rules.specs.Steps.{Exchange}
use Rattle.hub_state.specs.Journal.Noted.{Published, Imported, Noted}
use Rattle.hub_state.specs.Journal.Journal.{HasNoted, ImportedLast, HasImported, IsLegal, pool_of, added_to, exchanges_of, recorded_in}

module _ (problems : List Bounded) (journal : List Noted) (legal : IsLegal problems journal) (by key : ℕ) where
  -- an import names no more than the pool has
  within : (steps : ℕ) → ImportedLast journal by key steps → steps ≤ length (pool_of key journal)
  within steps last =
      let x : Noted = record { by = by; note = Imported key steps } in
      let imports = legal last.before x last.after last.split in
      let whole : steps ≡ length (pool_of key last.before) = imports.whole in
      let parts : pool_of key journal ≡ pool_of key last.before ++ pool_of key (x ∷ last.after) =
      ap (pool_of key) last.split ∙ flat_map-append (λ (y : Noted). added_to key y.note) last.before (x ∷ last.after) in
      let long : length (pool_of key journal) ≡ length (pool_of key last.before) + length (pool_of key (x ∷ last.after)) =
      ap length parts ∙ length-append (pool_of key last.before) (pool_of key (x ∷ last.after)) in
      omega arith

  pub as_long : (t : Translated) (pool : List LogStep) (has : HasImported journal by key t pool) → length pool ≡ has.steps
  as_long t pool has = ap length has.prefix ∙ length-take-le has.steps (pool_of key journal) (within has.steps has.imported)

  -- later entries change nothing in what was imported last, where none of them is an import
  pub stays : (later : List Noted) → ((n : ℕ) → ¬ HasNoted later by (Imported key n)) → (t : Translated) (pool : List LogStep) → HasImported journal by key t pool → HasImported (journal ++ later) by key t pool
  stays later none t pool has =
      let last = has.imported in
      let x : Noted = record { by = by; note = Imported key has.steps } in
      record {
        published = (has.published.0, Contains-append_left journal later (record { by = has.published.0; note = Published key t }) has.published.1);
        steps = has.steps;
        imported = record {
          before = last.before;
          after = last.after ++ later;
          split = ap (λ (j : List Noted). j ++ later) last.split ∙ append_assoc last.before (x ∷ last.after) later;
          last = λ n h. elim (Contains-append_cases last.after later (record { by = by; note = Imported key n }) h) [ inl old ↦ last.last n old | inr new ↦ none n new ];
        };
        prefix = has.prefix ∙ sym (take-append-le has.steps (pool_of key journal) (pool_of key later) (within has.steps last))
            ∙ ap (take has.steps) (sym (flat_map-append (λ (y : Noted). added_to key y.note) journal later));
      }

nothing_recorded : (by : ℕ) (others : List Noted) → All (λ x. x.by ≢ by) others → exchanges_of by others ≡ []
nothing_recorded by [] h = refl
nothing_recorded by (x ∷ xs) h =
    let other : (x.by == by) ≡ false = ne_eqb x.by by (All-head (λ (y : Noted). y.by ≢ by) x xs h) in
    ap (λ b. (if b then recorded_in x.note else []) ++ exchanges_of by xs) other ∙ nothing_recorded by xs (All-tail (λ (y : Noted). y.by ≢ by) x xs h)

-- entries of others change nothing in what a session recorded
pub same_exchanges : (by : ℕ) (journal others : List Noted) → All (λ x. x.by ≢ by) others → exchanges_of by (journal ++ others) ≡ exchanges_of by journal
same_exchanges by journal others h =
    flat_map-append (λ (x : Noted). if x.by == by then recorded_in x.note else []) journal others
    ∙ ap (λ (xs : List Exchange). exchanges_of by journal ++ xs) (nothing_recorded by others h) ∙ append-nil (exchanges_of by journal)
