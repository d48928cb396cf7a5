-- The transcripts of all sessions, in order.
use Rattle.std.proofs.Common.{◌≡◌, ◌+◌, ◌<◌, ℕ, suc, Option, Some, None, List, [], ◌∷◌, length, get_or, All, sym, ◌∙◌, subst, arith}
use Rattle.std.specs.Prelude.{slice_get, IfSome}
use Rattle.std.specs.List.{AllZip}
use mathlib.Core.List.{IsPrefix}
use Rattle.atomic_table.specs.Seated.{TableId}
use Rattle.hub_lock.specs.Passes.{of_pass}
use Rattle.rel_formula.specs.Bounds.{Bounded}
use Rattle.translation_rules.specs.Translation.{Translated}
use Rattle.session_words.specs.declared.commands.Command.{Command}
use Rattle.session_rules.specs.declared.script.SessionScript.{SessionScript}
use Rattle.session_rules.specs.declared.script.Transcript.{Transcript}
use Rattle.session_rules.specs.declared.answers.Reply.{Reply}
use Rattle.hub_state.specs.Journal.Noted.{Noted}
use Rattle.hub_turns.specs.Interleaved.{IsServedBy}
use Rattle.hub_turns.proofs.Going.{same_base}
use Rattle.explorer_run.specs.declared.seats.Seat.{Seat}
use Rattle.explorer_run.specs.Served.{AreServedFrom}
use Rattle.explorer_run.specs.Seats.{IsTranscriptOf, IsEnded, IsBack, EachSeat}
use Rattle.explorer_run.proofs.Gathering.{Told}

-- what a session did stays, whatever others add
abbrev pub Stays : Type 0
Stays =
    (problems : List Bounded) (seen journal : List Noted) (t : Translated) (number key budget : ℕ) (commands : List Command) (replies : List Reply) (floors : List (List ℕ)) → IsPrefix seen journal
    → of_pass (λ x. x.by) number journal ≡ of_pass (λ x. x.by) number seen → IsServedBy problems seen t number key budget commands replies floors → IsServedBy problems journal t number key budget commands replies floors

-- the transcript of a session at a place, once its pass was taken back
abbrev TellsAt : List Bounded → List Noted → List Translated → ℕ → SessionScript → Seat → Type 0
TellsAt problems journal ts number script seat = (y : Transcript) → Told seat y → IsTranscriptOf problems journal ts number script y

told_now : (transcript : Option Transcript) (P : Transcript → Type 0) (y : Transcript) → transcript ≡ Some y → IfSome transcript P → P y
told_now (Some x) P y is told = let same : x ≡ y = cc in subst P same told
told_now None P y is told = absurd cc

tells_at : Stays → (problems : List Bounded) (journal : List Noted) (lock : TableId) (number : ℕ) (ts : List Translated) (scripts : List SessionScript) (k : ℕ) (seat : Seat) (ended : IsEnded lock (Some problems) number ts scripts k seat) → IsBack journal seat → TellsAt problems journal ts number ended.script seat
tells_at stays problems journal lock number ts scripts k seat ended back y is =
    let idle = ended.out.idle in
    let same : idle.problems ≡ problems = same_base idle.problems problems seat.pass.view.base idle.base_is ended.out.base_is in
    let told = subst (λ (ps : List Bounded). IsTranscriptOf ps seat.pass.view.seen ts number ended.script y) same
    (told_now seat.transcript (λ x. IsTranscriptOf idle.problems seat.pass.view.seen ts number ended.script x) y is ended.told) in
    let own = subst (λ (n : ℕ). of_pass (λ (x : Noted). x.by) n journal ≡ of_pass (λ (x : Noted). x.by) n seat.pass.view.seen) ended.number_is (back.own ∙ sym idle.own) in
    let x = ended.script in (
      told.0,
      told.1,
      record {
        served = stays problems seat.pass.view.seen journal told.0 number x.key x.budget x.commands y.replies y.floors back.seen own told.2.served;
        cells = told.2.cells;
        printable = told.2.printable;
      },
    )

abbrev AreAt : List Bounded → List Noted → List Translated → ℕ → List SessionScript → List Seat → Type 0
AreAt problems journal ts n xs ss = (k : ℕ) (d : Seat) → k < length ss → (x : SessionScript) × (slice_get xs k ≡ Some x) × TellsAt problems journal ts (n + k) x (get_or ss k d)

in_order : (problems : List Bounded) (journal : List Noted) (ts : List Translated) (n : ℕ) (xs : List SessionScript) (ss : List Seat) (ys : List Transcript) → AreAt problems journal ts n xs ss → AllZip Told ss ys → length xs ≡ length ss → AreServedFrom problems journal ts n xs ys
in_order problems journal ts n [] [] [] at zip same = tt
in_order problems journal ts n [] [] (y ∷ ys) at zip same = absurd zip
in_order problems journal ts n [] (s ∷ ss) ys at zip same = absurd (omega arith)
in_order problems journal ts n (x ∷ xs) [] ys at zip same = absurd (omega arith)
in_order problems journal ts n (x ∷ xs) (s ∷ ss) [] at zip same = absurd zip
in_order problems journal ts n (x ∷ xs) (s ∷ ss) (y ∷ ys) at zip same =
    let here = at 0 s (omega arith) in
    let script : here.0 ≡ x = let e : Some x ≡ Some here.0 = here.1 in cc in
    let number : n + 0 ≡ n = omega arith in
    let told = subst (λ (m : ℕ). IsTranscriptOf problems journal ts m x y) number (subst (λ (z : SessionScript). IsTranscriptOf problems journal ts (n + 0) z y) script (here.2 y zip.0)) in
    let later : AreAt problems journal ts (n + 1) xs ss = λ k d lt.
    let next = at (suc k) d (omega arith) in
    let place : n + suc k ≡ n + 1 + k = omega arith in
    (next.0, next.1, λ z is. subst (λ (m : ℕ). IsTranscriptOf problems journal ts m next.0 z) place (next.2 z is)) in
    (told, in_order problems journal ts (n + 1) xs ss ys later zip.1 (omega arith))

-- once all passes were taken back
pub all_in_order : Stays → (problems : List Bounded) (journal : List Noted) (lock : TableId) (first : ℕ) (ts : List Translated) (scripts : List SessionScript) (seats : List Seat) (ys : List Transcript) → EachSeat (λ k seat. IsEnded lock (Some problems) (first + k) ts scripts k seat) seats → All (IsBack journal) seats
    → AllZip Told seats ys → length seats ≡ length scripts → AreServedFrom problems journal ts first scripts ys
all_in_order stays problems journal lock first ts scripts seats ys ended back zip same = in_order problems journal ts first scripts seats ys at zip (sym same)
  where
    at : AreAt problems journal ts first scripts seats
    at k d lt =
        let e = ended k d lt in
        (e.script, e.at, tells_at stays problems journal lock (first + k) ts scripts k (get_or seats k d) e (back k d lt))
