-- Sessions are opened in passes of their own, and end there.
use Rattle.std.proofs.Common.{◌≡◌, ◌≢◌, ◌+◌, ◌<◌, ◌≤◌, ℕ, zero, suc, Option, Some, None, Result, Ok, Err, List, [], ◌∷◌, length, get_or, All, refl, sym, ◌∙◌, ap, subst, arith}
use Rattle.std.specs.Prelude.{IfOk, IfSome, slice_get}
use Rattle.std.specs.Result.{result_ok}
use Rattle.std.proofs.lemmas.Result.{IfOk-weaker}
use Rattle.std.specs.declared.alloc.AllocError.{AllocError}
use Rattle.std.specs.declared.sync.Arc.{Arc}
use Rattle.std.proofs.lemmas.Option.{slice_get_read, slice_get_within, slice_get-map}
use Rattle.std.specs.Option.{option_map}
use Rattle.std.proofs.lemmas.List.{length-map}
use Rattle.atomic_table.specs.Seated.{TableId}
use Rattle.hub_lock.specs.declared.view.View.{View}
use Rattle.hub_lock.specs.Passes.{split_off}
use Rattle.rel_formula.specs.Bounds.{Bounded}
use Rattle.translation_rules.specs.Translation.{Translated}
use Rattle.session_rules.specs.declared.script.SessionScript.{SessionScript}
use Rattle.session_rules.specs.declared.script.Transcript.{Transcript}
use Rattle.session_state.specs.Sessions.Fits.{InSession}
use Rattle.hub_state.specs.Journal.Noted.{Noted}
use Rattle.hub_state.specs.Journal.Journal.{IsPublished}
use Rattle.hub_turns.specs.Turned.{WentOn}
use Rattle.hub_turns.proofs.Onward.{same_number}
use Rattle.session_turns.specs.Seated.{IsSeated}
use Rattle.session_turns.specs.Allowed.{allowed}
use Rattle.session_turns.specs.Served.{IsOpened, IsServedScript}
use Rattle.explorer_run.specs.declared.seats.Seat.{Seat}
use Rattle.explorer_run.specs.Served.{values_of, ArePublished}
use Rattle.explorer_run.specs.Seats.{HasOpened, IsReady, IsPlaced, IsOut, IsTranscriptOf, IsEnded, EachSeat}
use Rattle.explorer_run.proofs.Rooted.{Seen}

abbrev V : Type 0
V = View Noted (List Bounded)

-- the translation at a place, and that it is there
pub translation_at : {A : Type 0} (ts : List (Arc Translated A)) (key : ℕ) (item : Arc Translated A) → key < length ts → item ≡ get_or ts key item → slice_get (values_of ts) key ≡ Some item.value
translation_at {A} ts key item within is = slice_get-map (λ (a : Arc Translated A). a.value) ts key ∙ ap (option_map (λ (a : Arc Translated A). a.value)) (slice_get_read ts (length ts) key item refl within is)

pub some_translation : {A : Type 0} (ts : List (Arc Translated A)) (key : ℕ) → key < length ts → (t : Translated) × (slice_get (values_of ts) key ≡ Some t)
some_translation {A} ts key within = there (values_of ts) key (subst (λ (n : ℕ). key < n) (sym (length-map ts (λ (a : Arc Translated A). a.value))) within)
  where
    there : (us : List Translated) (k : ℕ) → k < length us → (t : Translated) × (slice_get us k ≡ Some t)
    there [] k within = absurd (omega arith)
    there (u ∷ us) zero within = (u, refl)
    there (u ∷ us) (suc k) within = there us k (omega arith)

pub same_element : {X : Type 0} (xs : List X) (k : ℕ) (x item : X) → slice_get xs k ≡ Some x → item ≡ get_or xs k item → item ≡ x
same_element xs k x item at is =
    let there : slice_get xs k ≡ Some item = slice_get_read xs (length xs) k item refl (slice_get_within xs k x at) is in
    let both : Some item ≡ Some x = sym there ∙ at in
    cc

pub same_translation : {A : Type 0} (ts : List (Arc Translated A)) (key : ℕ) (item : Arc Translated A) (t : Translated) → slice_get (values_of ts) key ≡ Some t → item ≡ get_or ts key item → item.value ≡ t
same_translation {A} ts key item t at is =
    let within : key < length ts = subst (λ (n : ℕ). key < n) (length-map ts (λ (a : Arc Translated A). a.value)) (slice_get_within (values_of ts) key t at) in
    let there : slice_get (values_of ts) key ≡ Some item.value = translation_at ts key item within is in
    let both : Some item.value ≡ Some t = sym there ∙ at in
    cc

-- ---- a session that was just opened

-- what a pass that was split off keeps, also later
pub number_of_split : (lock : TableId) (old off now : Seen) → off.view ≡ split_off old.view → WentOn lock off now → now.view.number ≡ old.view.made + 1
number_of_split lock old off now other went = same_number lock off now went ∙ ap (λ (v : V). v.number) other

pub base_of_split : (lock : TableId) (old off now : Seen) → off.view ≡ split_off old.view → WentOn lock off now → now.view.base ≡ old.view.base
base_of_split lock old off now other went = ap (λ (v : V). v.base) went.same ∙ ap (λ (v : V). v.base) other

pub has_translation_still : (ts : List Translated) (key : ℕ) (old off : Seen) (t : Translated) → slice_get ts key ≡ Some t → ArePublished old.view.seen ts → off.view ≡ split_off old.view → IsPublished off.view.seen key t
has_translation_still ts key old off t at were other = subst (λ (js : List Noted). IsPublished js key t) (sym (ap (λ (v : V). v.seen) other)) (were key t at)

-- what is opened under the number that comes next
pub opened_now : (lock : TableId) (ts : List Translated) (key budget : ℕ) (old off now : Seen) (x : InSession) (t : Translated) → off.view ≡ split_off old.view → WentOn lock off now → slice_get ts key ≡ Some t → IsSeated lock t 0 now x → IsOpened key budget now x → HasOpened lock ts key budget old now x
opened_now lock ts key budget old off now x t other went at seated opened = record {
  translation = t;
  of_key = at;
  seated = seated;
  opened = opened;
  number = number_of_split lock old off now other went;
  base = base_of_split lock old off now other went;
}

more_is_not_zero : (m n : ℕ) → n ≡ m + 1 → n ≢ 0
more_is_not_zero m n is none = absurd (omega arith)

-- the session of the script at a place
pub ready_at : (lock : TableId) (ts : List Translated) (scripts : List SessionScript) (place : ℕ) (x : SessionScript) (root : Seen) (seat : Seat) → slice_get scripts place ≡ Some x → HasOpened lock ts x.key x.budget root seat.pass seat.session → seat.transcript ≡ None → seat.count ≡ 0 → IsReady lock ts scripts place seat
ready_at lock ts scripts place x root seat at opened none fresh = record {
  script = x;
  at = at;
  translation = opened.translation;
  of_key = opened.of_key;
  seated = opened.seated;
  opened = opened.opened;
  number = more_is_not_zero root.view.made seat.pass.view.number opened.number;
  none = none;
  fresh = fresh;
}

-- ---- passes that are out

pub all_are_out : (lock : TableId) (ts : List Translated) (scripts : List SessionScript) (base : Option (List Bounded)) (first : ℕ) (seats : List Seat) → EachSeat (λ k seat. IsReady lock ts scripts k seat × IsPlaced base first k seat) seats → All (IsOut lock base) seats
all_are_out lock ts scripts base first seats each k d lt =
    let here = each k d lt in
    record { idle = here.0.seated.idle; number = here.0.number; base_is = here.1.0 }

pub all_ended_are_out : (lock : TableId) (base : Option (List Bounded)) (ts : List Translated) (scripts : List SessionScript) (first : ℕ) (seats : List Seat) → EachSeat (λ k seat. IsEnded lock base (first + k) ts scripts k seat) seats → All (IsOut lock base) seats
all_ended_are_out lock base ts scripts first seats each k d lt = (each k d lt).out

-- a session that was served
pub ended_now : (lock : TableId) (ts : List Translated) (scripts : List SessionScript) (place : ℕ) (old new : Seat) (ready : IsReady lock ts scripts place old) → WentOn lock old.pass new.pass → (served : Result Transcript AllocError)
    → ((problems : List Bounded) (key budget : ℕ) → old.pass.view.base ≡ Some problems → IsOpened key budget old.pass old.session → IfOk served (λ x. IsServedScript problems new.pass.view.seen ready.translation new.pass.view.number key budget ready.script.commands x))
    → new.transcript ≡ result_ok served → new.count ≤ allowed ready.script.budget ready.script.commands → IsEnded lock old.pass.view.base old.pass.view.number ts scripts place new
ended_now lock ts scripts place old new ready went served told is counted =
    let base = ap (λ (v : V). v.base) went.same in
    let number = same_number lock old.pass new.pass went in
    let problems = went.idle.problems in
    let x = ready.script in
    let Of : ℕ → Transcript → Type 0 = λ n y. IsTranscriptOf problems new.pass.view.seen ts n x y in
    let here : IfOk served (λ y. IsServedScript problems new.pass.view.seen ready.translation new.pass.view.number x.key x.budget x.commands y) = told problems x.key x.budget (sym base ∙ went.idle.base_is) ready.opened in
    let all : IfOk served (Of new.pass.view.number) = IfOk-weaker served (λ y. IsServedScript problems new.pass.view.seen ready.translation new.pass.view.number x.key x.budget x.commands y) (Of new.pass.view.number) (λ y h. (ready.translation, ready.of_key, h)) here in
    record {
      out = record { idle = went.idle; number = λ none. ready.number (sym number ∙ none); base_is = base };
      number_is = number;
      script = x;
      at = ready.at;
      told = subst (λ (t : Option Transcript). IfSome t (Of old.pass.view.number)) (sym is) (subst (λ (n : ℕ). IfSome (result_ok served) (Of n)) number (some_of served (Of new.pass.view.number) all));
      counted = counted;
    }
  where
    some_of : (r : Result Transcript AllocError) (P : Transcript → Type 0) → IfOk r P → IfSome (result_ok r) P
    some_of (Ok y) P h = h
    some_of (Err e) P h = tt
