-- The pools of a legal journal.
use Rattle.std.proofs.Common.{◌≡◌, ◌⊎◌, inl, inr, ◌==◌, ℕ, cond, List, [], ◌∷◌, ◌++◌, append-nil, append_assoc, refl, sym, ◌∙◌, ap, subst, arith}
use Rattle.std.proofs.lemmas.Bool.{cases_Bool, eqb-true}
use Rattle.std.proofs.lemmas.Grind.{flat_map-append}
use Rattle.std.proofs.lemmas.List.Elements.{Contains-append_left}
use Rattle.cnf_core.specs.declared.literal.Lit.{Lit}
use Rattle.refutation_check.specs.declared.log.Step.{Step as LogStep}
use Rattle.refutation_check.specs.Chain.{IsAccepted}
use Rattle.rel_formula.specs.Bounds.{Bounded}
use Rattle.translation_rules.specs.Translation.{Translated}
use Rattle.hub_state.specs.Journal.Noted.{Note, Published, Imported, Shared, Opened, Recorded, Noted}
use Rattle.hub_state.specs.Journal.Journal.{IsPublished, MayFollow, IsLegal, IsPool, Shares, pool_of, added_to}
use Rattle.hub_state.proofs.Journal.Prefixes.{one_translation}

still_there : (journal : List Noted) (x : Noted) (key : ℕ) (t : Translated) → IsPublished journal key t → IsPublished (journal ++ x ∷ []) key t
still_there journal x key t (by, there) = (by, Contains-append_left journal (x ∷ []) (record { by = by; note = Published key t }) there)

module _ (problems : List Bounded) (key : ℕ) where
  -- nothing was shared for the key, or its pool is one over its translation
  HasPool : List Noted → Type 0
  HasPool journal = (pool_of key journal ≡ []) ⊎ ((t : Translated) × IsPublished journal key t × IsPool t (pool_of key journal))

  with_one : (journal : List Noted) (x : Noted) → pool_of key (journal ++ x ∷ []) ≡ pool_of key journal ++ added_to key x.note
  with_one journal x = flat_map-append (λ (y : Noted). added_to key y.note) journal (x ∷ []) ∙ ap (λ ys. pool_of key journal ++ ys) (append-nil (added_to key x.note))

  nothing_added : (journal : List Noted) (x : Noted) → added_to key x.note ≡ [] → HasPool journal → HasPool (journal ++ x ∷ [])
  unfolding HasPool
  nothing_added journal x none has =
      let same : pool_of key (journal ++ x ∷ []) ≡ pool_of key journal = with_one journal x ∙ ap (λ ys. pool_of key journal ++ ys) none ∙ append-nil (pool_of key journal) in
      elim has [
        | inl empty ↦ inl (same ∙ empty)
        | inr found ↦ inr (found.0, still_there journal x key found.0 found.1, subst (IsPool found.0) (sym same) found.2)
      ]

  shared : (journal : List Noted) (by at : ℕ) (steps : List LogStep) → Shares journal at steps → HasPool journal → HasPool (journal ++ record { by = by; note = Shared at steps } ∷ [])
  unfolding HasPool
  shared journal by at steps shares has =
      let x : Noted = record { by = by; note = Shared at steps } in
      elim (cases_Bool (at == key)) [
        | inr f ↦ nothing_added journal x (ap (λ b. cond b steps []) f) has
        | inl t ↦
            let same : at ≡ key = eqb-true at key t in
            let grown : pool_of key (journal ++ x ∷ []) ≡ pool_of at journal ++ steps = with_one journal x ∙ ap (λ b. pool_of key journal ++ cond b steps []) t ∙ ap (λ k. pool_of k journal ++ steps) (sym same) in
            inr (shares.translation, still_there journal x key shares.translation (subst (λ k. IsPublished journal k shares.translation) same shares.published), subst (IsPool shares.translation) (sym grown) shares.pool)
      ]

  one_step : (journal : List Noted) (by : ℕ) (note : Note) → MayFollow problems journal by note → HasPool journal → HasPool (journal ++ record { by = by; note = note } ∷ [])
  one_step journal by (Published at t) may has = nothing_added journal (record { by = by; note = Published at t }) refl has
  one_step journal by (Imported at steps) may has = nothing_added journal (record { by = by; note = Imported at steps }) refl has
  one_step journal by (Shared at steps) may has = shared journal by at steps may has
  one_step journal by (Opened at budget) may has = nothing_added journal (record { by = by; note = Opened at budget }) refl has
  one_step journal by (Recorded step reply) may has = nothing_added journal (record { by = by; note = Recorded step reply }) refl has

  from_here : (before rest : List Noted) → IsLegal problems (before ++ rest) → HasPool before → HasPool (before ++ rest)
  from_here before [] legal has = subst HasPool (sym (append-nil before)) has
  from_here before (x ∷ xs) legal has =
      let same : (before ++ x ∷ []) ++ xs ≡ before ++ x ∷ xs = append_assoc before (x ∷ []) xs in
      subst HasPool same (from_here (before ++ x ∷ []) xs (subst (IsLegal problems) (sym same) legal) (one_step before x.by x.note (legal before x xs refl) has))

  pub pool_right : (journal : List Noted) → IsLegal problems journal → (t : Translated) → IsPublished journal key t → IsPool t (pool_of key journal)
  unfolding HasPool
  pool_right journal legal t published = elim (from_here [] journal legal (inl refl)) [
    | inl empty ↦ subst (IsPool t) (sym empty) (record { accepted = λ i d l. absurd (omega arith); limits = record { few_steps = omega arith; few_numbers = omega arith } })
    | inr found ↦ subst (λ (u : Translated). IsPool u (pool_of key journal)) (one_translation problems journal legal key found.0 t found.1 published) found.2
  ]
