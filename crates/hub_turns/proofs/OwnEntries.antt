-- The entries under one number, and what they tell of the whole journal.
use Rattle.std.proofs.Common.{◌≡◌, ◌≢◌, inl, inr, ◌==◌, ℕ, Bool, true, false, cond, List, [], ◌∷◌, ◌++◌, All, Contains, append-nil, refl, sym, ◌∙◌, ap, subst}
use Rattle.std.proofs.lemmas.Bool.{cases_Bool, eq-eqb}
use Rattle.std.proofs.lemmas.List.{append_cancel_left}
use Rattle.std.proofs.lemmas.List.Elements.{All-nil, All-cons, All-contains, Contains-append_left, Contains-append_cases, filter-append}
use mathlib.Core.List.{IsPrefix}
use Rattle.hub_lock.specs.Passes.{of_pass}
use Rattle.refutation_check.specs.declared.log.Step.{Step as LogStep}
use Rattle.rel_formula.specs.Bounds.{Bounded}
use Rattle.rel_formula.proofs.OpenCells.{filter_has}
use Rattle.translation_rules.specs.Translation.{Translated}
use Rattle.session_rules.specs.States.{State, Start}
use Rattle.session_rules.specs.Steps.{Exchange, MachineRun, state_after}
use Rattle.session_words.specs.declared.steps.Step.{Step}
use Rattle.session_rules.specs.declared.answers.Reply.{Reply}
use Rattle.hub_state.specs.Journal.Noted.{Noted, Published, Imported, Opened, Recorded}
use Rattle.hub_state.specs.Journal.Journal.{HasImported, IsPublished, IsReplay, MayFollow, IsLegal, recorded_in, exchanges_of}
use Rattle.hub_state.proofs.Journal.Imports.{stays, same_exchanges}

abbrev pub own_of : ℕ → List Noted → List Noted
own_of by journal = of_pass (λ (x : Noted). x.by) by journal

-- a session's exchanges stand under its number
pub own_exchanges : (by : ℕ) (journal : List Noted) → exchanges_of by (own_of by journal) ≡ exchanges_of by journal
own_exchanges by [] = refl
own_exchanges by (x ∷ xs) = elim (cases_Bool (x.by == by)) [
  | inl t ↦
      ap (exchanges_of by) (ap (λ (b : Bool). cond b (x ∷ own_of by xs) (own_of by xs)) t)
      ∙ ap (λ (ys : List Exchange). cond (x.by == by) (recorded_in x.note) [] ++ ys) (own_exchanges by xs)
  | inr f ↦
      ap (exchanges_of by) (ap (λ (b : Bool). cond b (x ∷ own_of by xs) (own_of by xs)) f)
      ∙ own_exchanges by xs
      ∙ sym (ap (λ (b : Bool). cond b (recorded_in x.note) [] ++ exchanges_of by xs) f)
]

-- what its own entries lead to is what the journal leads to
pub own_replay : (problems : List Bounded) (journal : List Noted) (by key : ℕ) (problem : Bounded) (s : State) → IsReplay problems (own_of by journal) by key problem s → IsReplay problems journal by key problem s
own_replay problems journal by key problem s replay = record {
  budget = replay.budget;
  opened = (filter_has (λ (x : Noted). x.by == by) journal (record { by = by; note = Opened key replay.budget }) replay.opened).0;
  of_key = replay.of_key;
  run = subst (MachineRun problem (Start replay.budget)) (own_exchanges by journal) replay.run;
  state = replay.state ∙ ap (state_after (Start replay.budget)) (own_exchanges by journal);
}

pub no_own : (by : ℕ) (xs : List Noted) → own_of by xs ≡ [] → All (λ x. x.by ≢ by) xs
no_own by [] none = All-nil (λ (x : Noted). x.by ≢ by)
no_own by (x ∷ xs) none = elim (cases_Bool (x.by == by)) [
  | inl t ↦ absurd (let kept : x ∷ own_of by xs ≡ [] = sym (ap (λ (b : Bool). cond b (x ∷ own_of by xs) (own_of by xs)) t) ∙ none in cc)
  | inr f ↦
      let rest : own_of by xs ≡ [] = sym (ap (λ (b : Bool). cond b (x ∷ own_of by xs) (own_of by xs)) f) ∙ none in
      All-cons (λ (y : Noted). y.by ≢ by) x xs (λ same. let wrong : true ≡ false = sym (eq-eqb x.by by same) ∙ f in absurd cc) (no_own by xs rest)
]

-- where a journal has the same entries under a number as its front, the others are of other numbers
pub grown_by_others : (by : ℕ) (seen journal : List Noted) → IsPrefix seen journal → own_of by journal ≡ own_of by seen → (rest : List Noted) × (journal ≡ seen ++ rest) × All (λ x. x.by ≢ by) rest
grown_by_others by seen journal (rest, whole) same =
    let parts : own_of by journal ≡ own_of by seen ++ own_of by rest = ap (own_of by) (sym whole) ∙ filter-append (λ (x : Noted). x.by == by) seen rest in
    let none : own_of by rest ≡ [] = append_cancel_left (own_of by seen) (own_of by rest) [] (sym parts ∙ same ∙ sym (append-nil (own_of by seen))) in
    (rest, sym whole, no_own by rest none)

-- what was published stays
pub published_grows : (seen journal : List Noted) → IsPrefix seen journal → (key : ℕ) (t : Translated) → IsPublished seen key t → IsPublished journal key t
published_grows seen journal (rest, whole) key t (by, there) =
    (by, subst (λ (j : List Noted). Contains j (record { by = by; note = Published key t })) whole (Contains-append_left seen rest (record { by = by; note = Published key t }) there))

-- what a session imported last stays, whatever others add
pub import_grows : (problems : List Bounded) (seen journal : List Noted) → IsLegal problems seen → IsPrefix seen journal → (by key : ℕ) → own_of by journal ≡ own_of by seen → (t : Translated) (pool : List LogStep) → HasImported seen by key t pool →
    HasImported journal by key t pool
import_grows problems seen journal legal begins by key same t pool has =
    let grown = grown_by_others by seen journal begins same in
    let stays_there : HasImported (seen ++ grown.0) by key t pool =
    stays problems seen legal by key grown.0 (λ n there. All-contains (λ (x : Noted). x.by ≢ by) grown.0 (record { by = by; note = Imported key n }) grown.2 there refl) t pool has in
    subst (λ (j : List Noted). HasImported j by key t pool) (sym grown.1) stays_there

-- what a session may open or record, it may whatever others add
pub may_open_still : (problems : List Bounded) (seen journal : List Noted) → IsPrefix seen journal → (by key budget : ℕ) → own_of by journal ≡ own_of by seen → MayFollow problems seen by (Opened key budget) → MayFollow problems journal by (Opened key budget)
may_open_still problems seen journal begins by key budget same may =
    let grown = grown_by_others by seen journal begins same in
    record {
      problem = may.problem;
      of_key = may.of_key;
      first = λ other most there.
          let x : Noted = record { by = by; note = Opened other most } in
          elim (Contains-append_cases seen grown.0 x (subst (λ (j : List Noted). Contains j x) grown.1 there)) [
            | inl before ↦ may.first other most before
            | inr later ↦ All-contains (λ (y : Noted). y.by ≢ by) grown.0 x grown.2 later refl
          ];
    }

-- entries of others change nothing in what a session's entries lead to
pub replay_grows : (problems : List Bounded) (seen others : List Noted) (by key : ℕ) (problem : Bounded) (s : State) → All (λ x. x.by ≢ by) others → IsReplay problems seen by key problem s → IsReplay problems (seen ++ others) by key problem s
replay_grows problems seen others by key problem s different replay =
    let same = sym (same_exchanges by seen others different) in
    record {
      budget = replay.budget;
      opened = Contains-append_left seen others (record { by = by; note = Opened key replay.budget }) replay.opened;
      of_key = replay.of_key;
      run = subst (MachineRun problem (Start replay.budget)) same replay.run;
      state = replay.state ∙ ap (state_after (Start replay.budget)) same;
    }

pub may_record_still : (problems : List Bounded) (seen journal : List Noted) → IsLegal problems seen → IsPrefix seen journal → (by : ℕ) (step : Step) (reply : Reply) → own_of by journal ≡ own_of by seen →
    MayFollow problems seen by (Recorded step reply) → MayFollow problems journal by (Recorded step reply)
may_record_still problems seen journal legal begins by step reply same may =
    let grown = grown_by_others by seen journal begins same in
    record {
      key = may.key;
      problem = may.problem;
      old = may.old;
      replay = subst (λ (j : List Noted). IsReplay problems j by may.key may.problem may.old) (sym grown.1) (replay_grows problems seen grown.0 by may.key may.problem may.old grown.2 may.replay);
      may = may.may;
      not_memory = may.not_memory;
      evidence = λ needs. let found = may.evidence needs in (found.0, found.1, import_grows problems seen journal legal begins by may.key same found.0 found.1 found.2, found.3);
    }
