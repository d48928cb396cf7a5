-- What stands first in a legal journal.
use Rattle.std.proofs.Common.{◌≡◌, inl, inr, ℕ, List, ◌∷◌, ◌++◌, get_or, take, drop, take-append-drop, append_assoc, Contains, refl, sym, ◌∙◌, ap, subst, arith}
use Rattle.std.proofs.lemmas.Bool.{cases_order}
use Rattle.std.proofs.lemmas.List.{get_or_default}
use Rattle.std.proofs.lemmas.List.Elements.{Contains-append_left}
use Rattle.refutation_check.specs.declared.log.Step.{Step as LogStep}
use Rattle.rel_formula.specs.Bounds.{Bounded}
use Rattle.translation_rules.specs.Translation.{Translated}
use Rattle.session_words.specs.declared.steps.Step.{Step}
use Rattle.session_rules.specs.declared.answers.Reply.{Reply}
use Rattle.hub_state.specs.Journal.Noted.{Note, Published, Imported, Shared, Opened, Recorded, Noted}
use Rattle.hub_state.specs.Journal.Journal.{HasNoted, MayFollow, IsLegal}
use Rattle.hub_state.proofs.Journal.Prefixes.{at_place, earlier, note_of}

-- what stands in the first entries stands in all
from_take : (journal : List Noted) (k : ℕ) (x : Noted) → Contains (take k journal) x → Contains journal x
from_take journal k x c = subst (λ (j : List Noted). Contains j x) (take-append-drop k journal) (Contains-append_left (take k journal) (drop k journal) x c)

module _ (problems : List Bounded) (before : List Noted) (x : Noted) (after : List Noted) (legal : IsLegal problems (before ++ x ∷ after)) where
  first_legal : IsLegal problems before
  first_legal front y back split = legal front y (back ++ x ∷ after) (ap (λ (j : List Noted). j ++ x ∷ after) split ∙ append_assoc front (y ∷ back) (x ∷ after))

  -- a session records nothing before it is opened
  pub opened_first : (key budget : ℕ) → x.note ≡ Opened key budget → (step : Step) (reply : Reply) → ¬ HasNoted before x.by (Recorded step reply)
  opened_first key budget is step reply (k, k_in, k_is) =
      let may = at_place problems before first_legal k (record { by = x.by; note = Recorded step reply }) k_in k_is in
      let opens = subst (λ (n : Note). MayFollow problems before x.by n) is (legal before x after refl) in
      opens.first may.key may.replay.budget (from_take before k (record { by = x.by; note = Opened may.key may.replay.budget }) may.replay.opened)

  -- nothing is imported or shared before the translation is there
  pub published_first : (key : ℕ) (t : Translated) → x.note ≡ Published key t → (by steps : ℕ) → ¬ HasNoted before by (Imported key steps)
  published_first key t is by steps (k, k_in, k_is) =
      let may = at_place problems before first_legal k (record { by = by; note = Imported key steps }) k_in k_is in
      let publishes = subst (λ (n : Note). MayFollow problems before x.by n) is (legal before x after refl) in
      publishes.first may.translation (may.published.0, from_take before k (record { by = may.published.0; note = Published key may.translation }) may.published.1)

  pub shared_after : (key : ℕ) (t : Translated) → x.note ≡ Published key t → (by : ℕ) (steps : List LogStep) → ¬ HasNoted before by (Shared key steps)
  shared_after key t is by steps (k, k_in, k_is) =
      let may = at_place problems before first_legal k (record { by = by; note = Shared key steps }) k_in k_is in
      let publishes = subst (λ (n : Note). MayFollow problems before x.by n) is (legal before x after refl) in
      publishes.first may.translation (may.published.0, from_take before k (record { by = may.published.0; note = Published key may.translation }) may.published.1)

-- a session is opened once
pub opened_once : (problems : List Bounded) (journal : List Noted) → IsLegal problems journal → (by key budget other most : ℕ) → HasNoted journal by (Opened key budget) → HasNoted journal by (Opened other most) → (key ≡ other) × (budget ≡ most)
opened_once problems journal legal by key budget other most (i, i_in, i_is) (k, k_in, k_is) =
    let x : Noted = record { by = by; note = Opened key budget } in
    let y : Noted = record { by = by; note = Opened other most } in
    elim (cases_order i k) [
      | inl same ↦
          let e : x ≡ y = sym i_is ∙ get_or_default journal i x y i_in ∙ ap (λ n. get_or journal n y) same ∙ k_is in
          let n : Opened key budget ≡ Opened other most = note_of x y e in (cc, cc)
      | inr order ↦ elim order [
        | inl less ↦ let at = at_place problems journal legal k y k_in k_is in absurd (at.first key budget (earlier journal i k x less (omega arith) i_is))
        | inr more ↦ let at = at_place problems journal legal i x i_in i_is in absurd (at.first other most (earlier journal k i y more (omega arith) k_is))
      ]
    ]
