-- What a session did stays, whatever others add.
use Rattle.std.proofs.Common.{◌≡◌, ◌≢◌, ◌⊎◌, inl, inr, ℕ, List, [], ◌∷◌, ◌++◌, map, All, Contains, refl, sym, ◌∙◌, ap, subst, arith}
use Rattle.std.proofs.lemmas.List.Elements.{All-contains, Contains-append_left, Contains-append_right}
use mathlib.Core.List.{IsPrefix}
use Rattle.rel_formula.specs.Bounds.{Bounded}
use Rattle.translation_rules.specs.Translation.{Translated}
use Rattle.session_words.specs.declared.commands.Command.{Command}
use Rattle.session_rules.specs.declared.answers.Reply.{Reply}
use Rattle.hub_state.specs.Journal.Noted.{Noted, Opened, Recorded}
use Rattle.hub_state.specs.Journal.Journal.{exchanges_of}
use Rattle.hub_turns.specs.Interleaved.{SharesItsProofs, IsServedBy}
use Rattle.hub_turns.proofs.OwnEntries.{own_of, own_exchanges, grown_by_others, published_grows}

-- an element of two lists, one after the other, stands in the one or in the other
pub split_cases : {X : Type 0} (xs rest before : List X) (x : X) (later : List X) → xs ++ rest ≡ before ++ x ∷ later → ((l : List X) × (xs ≡ before ++ x ∷ l)) ⊎ ((mid : List X) × (before ≡ xs ++ mid) × (rest ≡ mid ++ x ∷ later))
split_cases [] rest before x later e = inr (before, refl, e)
split_cases (y ∷ ys) rest [] x later e = let same : y ≡ x = cc in inl (ys, ap (λ z. z ∷ ys) same)
split_cases (y ∷ ys) rest (b ∷ bs) x later e =
    let same : y ≡ b = cc in
    elim (split_cases ys rest bs x later cc) [
      | inl old ↦ inl (old.0, ap (λ z. z ∷ ys) same ∙ ap (λ zs. b ∷ zs) old.1)
      | inr new ↦ inr (new.0, ap (λ z. z ∷ bs) (sym same) ∙ ap (λ zs. y ∷ zs) new.1, new.2)
    ]

-- entries of others make no record of the session's
shares_with_others : (problems : List Bounded) (seen others : List Noted) (number key : ℕ) (t : Translated) → All (λ x. x.by ≢ number) others → SharesItsProofs problems seen number key t → SharesItsProofs problems (seen ++ others) number key t
shares_with_others problems seen others number key t different shares before step reply later s split replay =
    let x : Noted = record { by = number; note = Recorded step reply } in
    elim (split_cases seen others before x later split) [
      | inl old ↦ shares before step reply old.0 s old.1 replay
      | inr new ↦
          let there : Contains others x = subst (λ (j : List Noted). Contains j x) (sym new.2) (Contains-append_right new.0 (x ∷ later) x (0, omega arith, refl)) in
          absurd (All-contains (λ (y : Noted). y.by ≢ number) others x different there refl)
    ]

module _ (problems : List Bounded) (seen journal : List Noted) (begins : IsPrefix seen journal) (number : ℕ) (same : own_of number journal ≡ own_of number seen) (key budget : ℕ) (commands : List Command) (replies : List Reply) (floors : List (List ℕ)) where
  pub served_grows : (t : Translated) → IsServedBy problems seen t number key budget commands replies floors → IsServedBy problems journal t number key budget commands replies floors
  served_grows t served =
      let grown = grown_by_others number seen journal begins same in
      let opened : Noted = record { by = number; note = Opened key budget } in
      let told = served.told in
      record {
        told = record {
          opened = subst (λ (j : List Noted). Contains j opened) begins.1 (Contains-append_left seen begins.0 opened told.opened);
          problem = told.problem;
          of_key = told.of_key;
          exchanges = told.exchanges;
          transcript = told.transcript;
          recorded = sym (own_exchanges number journal) ∙ ap (exchanges_of number) same ∙ own_exchanges number seen ∙ told.recorded;
        };
        groups = served.groups;
        notes = ap (map (λ (x : Noted). x.note)) same ∙ served.notes;
        are_groups = served.are_groups;
        published = published_grows seen journal begins key t served.published;
        shares = subst (λ (j : List Noted). SharesItsProofs problems j number key t) (sym grown.1) (shares_with_others problems seen grown.0 number key t grown.2 served.shares);
      }
