-- Steps that are put behind those that begin a pool.
use Rattle.std.proofs.Common.{◌≡◌, ◌<◌, ◌≤◌, ◌+◌, ◌-◌, inl, inr, ℕ, Option, List, [], ◌∷◌, ◌++◌, length, take, drop, get_or, append-nil, append_assoc, length-append, refl, sym, ◌∙◌, ap, subst, arith}
use Rattle.std.proofs.lemmas.Bool.{cases_lt}
use Rattle.std.proofs.lemmas.Grind.{flat_map-append}
use Rattle.std.proofs.lemmas.List.{take_more, take_all, take-append-drop, drop_all}
use Rattle.std.proofs.Math.Seq.{drop-append-add, drop-append_seam}
use mathlib.Core.List.{IsPrefix}
use base.Growing.{prefix_trans}
use Rattle.hub_lock.proofs.Lists.{shorter_begins, prefix_length, prefix_whole}
use Rattle.refutation_check.specs.declared.log.Step.{Step as LogStep}
use Rattle.translation_rules.specs.Translation.{Translated}
use Rattle.hub_state.specs.declared.journal_rules.event.Entry.{Entry}
use Rattle.hub_state.specs.declared.journal_rules.event.Event.{Event}
use Rattle.hub_state.specs.declared.journal_rules.event.Event.TheVariants.{Published as WasPublished, Imported as WasImported, Shared as WasShared, Opened as WasOpened, Recorded as WasRecorded}
use Rattle.hub_state.specs.Journal.Journal.{added_to, pool_of}
use Rattle.hub_state.specs.Held.{note_with, translations_in, journal_of, steps_added, steps_in}

-- what is added to a pool doesn't hang on translations
same_added : (key : ℕ) (f g : ℕ → Translated) (e : Event) → added_to key (note_with f e) ≡ added_to key (note_with g e)
same_added key f g (WasPublished at) = refl
same_added key f g (WasImported at steps) = refl
same_added key f g (WasShared at steps) = refl
same_added key f g (WasOpened at budget) = refl
same_added key f g (WasRecorded step reply) = refl

-- so the pool of a journal is what its entries add
pub one_pool : (kept : List (Option Translated)) (key : ℕ) (es : List Entry) → pool_of key (journal_of kept es) ≡ steps_in key es
one_pool kept key [] = refl
one_pool kept key (e ∷ es) =
    ap (λ (xs : List LogStep). xs ++ pool_of key (journal_of kept es)) (same_added key (translations_in kept) (translations_in []) e.event)
    ∙ ap (λ (xs : List LogStep). steps_added key e ++ xs) (one_pool kept key es)

-- ---- one entry more

pub entry_more : (key : ℕ) (es : List Entry) (i : ℕ) (e : Entry) → i < length es → e ≡ get_or es i e → steps_in key (take (i + 1) es) ≡ steps_in key (take i es) ++ steps_added key e
entry_more key es i e l is =
    ap (steps_in key) (take_more es i e l ∙ ap (λ (x : Entry). take i es ++ x ∷ []) (sym is))
    ∙ flat_map-append (steps_added key) (take i es) (e ∷ [])
    ∙ ap (λ (xs : List LogStep). steps_in key (take i es) ++ xs) (append-nil (steps_added key e))

-- what the first entries add begins what all add
pub front_begins : (key : ℕ) (es : List Entry) (i : ℕ) → IsPrefix (steps_in key (take i es)) (steps_in key es)
front_begins key es i = (steps_in key (drop i es), sym (flat_map-append (steps_added key) (take i es) (drop i es)) ∙ ap (steps_in key) (take-append-drop i es))

-- ---- steps that begin the pool, with those behind them

-- what begins the pool, and has all of its steps before these, still begins it with those of them that it hasn't
goes_further : (pool have before xs : List LogStep) → IsPrefix have pool → IsPrefix (before ++ xs) pool → length before ≤ length have →
    IsPrefix (have ++ drop (length have - length before) xs) pool × (length before + length xs ≤ length (have ++ drop (length have - length before) xs))
goes_further pool have before xs begins longer had =
    let n : ℕ = length have - length before in
    let long : length (before ++ xs) ≡ length before + length xs = length-append before xs in
    let reach : length before + n ≡ length have = omega arith in
    elim (cases_lt (length have) (length (before ++ xs))) [
      | inl less ↦
          let front : IsPrefix have (before ++ xs) = shorter_begins have (before ++ xs) pool begins longer (omega arith) in
          let same : drop n xs ≡ front.0 =
          sym (drop-append-add before xs n)
          ∙ ap (λ (k : ℕ). drop k (before ++ xs)) reach
          ∙ ap (drop (length have)) (sym front.1)
          ∙ drop-append_seam have front.0 in
          let whole : have ++ drop n xs ≡ before ++ xs = ap (λ (ys : List LogStep). have ++ ys) same ∙ front.1 in
          let many = ap (λ (ys : List LogStep). length ys) whole in
          (subst (λ (ys : List LogStep). IsPrefix ys pool) (sym whole) longer, omega arith)
      | inr past ↦
          let none : drop n xs ≡ [] = drop_all n xs (omega arith) in
          let whole : have ++ drop n xs ≡ have = ap (λ (ys : List LogStep). have ++ ys) none ∙ append-nil have in
          let many = ap (λ (ys : List LogStep). length ys) whole in
          (subst (λ (ys : List LogStep). IsPrefix ys pool) (sym whole) begins, omega arith)
    ]

-- what is had begins the pool, and has all steps that the first so many entries added, which are so many
pub record IsBehind (key : ℕ) (es : List Entry) (start have : List LogStep) (at before : ℕ) : Type 0 where
  pub within : at ≤ length es
  pub before_is : before ≡ length (steps_in key (take at es))
  pub had : before ≤ length have
  pub grows : IsPrefix start have
  pub begins : IsPrefix have (steps_in key es)

module _ (key : ℕ) (es : List Entry) (start have : List LogStep) (at before : ℕ) (is : IsBehind key es start have at before) where
  module _ (e : Entry) (l : at < length es) (e_is : e ≡ get_or es at e) (steps : List LogStep) (steps_are : steps ≡ steps_added key e) where
    longer : IsPrefix (steps_in key (take at es) ++ steps_added key e) (steps_in key es)
    longer = subst (λ (xs : List LogStep). IsPrefix xs (steps_in key es)) (entry_more key es at e l e_is) (front_begins key es (at + 1))

    many : before + length steps ≡ length (steps_in key (take (at + 1) es))
    many =
        let more = ap (λ (xs : List LogStep). length xs) (entry_more key es at e l e_is) in
        let both = length-append (steps_in key (take at es)) (steps_added key e) in
        let same = ap (λ (xs : List LogStep). length xs) steps_are in
        let was = is.before_is in
        omega arith

    pub few : before + length steps ≤ length (steps_in key es)
    few = let front = prefix_length (steps_in key (take (at + 1) es)) (steps_in key es) (front_begins key es (at + 1)) in let m = many in omega arith

    -- a turn
    pub behind_more : (new : List LogStep) → new ≡ have ++ drop (length have - before) steps → IsBehind key es start new (at + 1) (before + length steps)
    behind_more new new_is =
        let first : List LogStep = steps_in key (take at es) in
        let was = is.before_is in
        let enough = is.had in
        let far = goes_further (steps_in key es) have first (steps_added key e) is.begins longer (omega arith) in
        let same : new ≡ have ++ drop (length have - length first) (steps_added key e) =
        new_is ∙ ap (λ (xs : List LogStep). have ++ drop (length have - before) xs) steps_are ∙ ap (λ (n : ℕ). have ++ drop (length have - n) (steps_added key e)) was in
        let size = ap (λ (xs : List LogStep). length xs) steps_are in
        let reached = far.1 in
        record {
          within = omega arith;
          before_is = many;
          had = subst (λ (xs : List LogStep). before + length steps ≤ length xs) (sym same) (omega arith);
          grows = prefix_trans start have new is.grows (drop (length have - before) steps, sym new_is);
          begins = subst (λ (xs : List LogStep). IsPrefix xs (steps_in key es)) (sym same) far.0;
        }

    -- a turn that was cut short
    pub behind_part : (n : ℕ) (new : List LogStep) → new ≡ have ++ take n (drop (length have - before) steps) → IsPrefix start new × IsPrefix new (steps_in key es)
    behind_part n new new_is =
        let rest : List LogStep = drop (length have - before) steps in
        let whole = behind_more (have ++ rest) refl in
        let more : IsPrefix (have ++ take n rest) (have ++ rest) = (drop n rest, append_assoc have (take n rest) (drop n rest) ∙ ap (λ (xs : List LogStep). have ++ xs) (take-append-drop n rest)) in (
          prefix_trans start have new is.grows (take n rest, sym new_is),
          subst (λ (xs : List LogStep). IsPrefix xs (steps_in key es)) (sym new_is) (prefix_trans (have ++ take n rest) (have ++ rest) (steps_in key es) more whole.begins),
        )

  -- behind the last entry
  pub behind_all : length es ≤ at → have ≡ steps_in key es
  behind_all past =
      let all = subst (λ (xs : List Entry). before ≡ length (steps_in key xs)) (take_all at es past) is.before_is in
      let enough = is.had in
      prefix_whole have (steps_in key es) is.begins (omega arith)
