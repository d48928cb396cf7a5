-- What a turn tells a worker's pass.
use Rattle.std.proofs.Common.{◌≡◌, ◌≢◌, ℕ, Option, Some, None, Result, Ok, Err, List, [], ◌∷◌, ◌++◌, take, drop, length, All, append-nil, refl, sym, ◌∙◌, ap, subst, arith}
use Rattle.std.proofs.lemmas.List.{take_all}
use Rattle.std.specs.Prelude.{OnOk, OnErr}
use mathlib.Core.List.{IsPrefix}
use base.Growing.{prefix_trans}
use Rattle.atomic_table.specs.Seated.{TableId}
use Rattle.hub_lock.specs.declared.view.View.{View}
use Rattle.hub_lock.specs.Passes.{of_pass, moved, in_turn, out_of_turn, seeing, IsStep, Adds}
use Rattle.hub_lock.proofs.Lists.{prefix_length}
use Rattle.crew_run.specs.declared.event.CrewEvent.{CrewEvent}
use Rattle.crew_run.specs.declared.event.CrewEntry.{CrewEntry}
use Rattle.crew_run.specs.declared.journal.CrewTask.{CrewTask}
use Rattle.crew_run.specs.declared.reading.Reading.{Reading}
use Rattle.crew_run.specs.Crew.{found, told, MayFollow}
use Rattle.crew_run.specs.Passing.{Journaled, IsJournalOf, HasRead, HasReadAll, Seen, IsIdle, WentOn, Leaves, IsReady}
use Rattle.crew_run.proofs.Later.{own_of, others_behind, front_of, front_is}

abbrev by_of : CrewEntry → ℕ
by_of e = e.by

abbrev pub V : Type 0
V = View CrewEntry CrewTask

-- what was read stays read while more is seen
pub read_grows : (seen more : List CrewEntry) (reading : Reading) → IsPrefix seen more → HasRead seen reading → HasRead more reading
read_grows seen more reading prefix read =
    let same = front_of reading.read seen more prefix read.within in
    record {
      within = let long = prefix_length seen more prefix in let l = read.within in omega arith;
      found_is = read.found_is ∙ ap found (sym same);
      told_is = read.told_is ∙ ap told (sym same);
    }

-- a turn that adds nothing
pub leaves_same : (by : ℕ) (before after : Journaled) → after ≡ before → IsJournalOf after.task after.entries → Leaves by before after
leaves_same by before after is legal = record {
  task = ap (λ (j : Journaled). j.task) is;
  more = [];
  entries = ap (λ (j : Journaled). j.entries) is ∙ sym (append-nil before.entries);
  step = tt;
  legal = legal;
}

-- and one that adds an event
pub leaves_more : (by : ℕ) (before after : Journaled) (event : CrewEvent) → after ≡ record before { entries = before.entries ++ record { by = by; event = event } ∷ [] } → IsJournalOf after.task after.entries → Leaves by before after
leaves_more by before after event is legal = record {
  task = ap (λ (j : Journaled). j.task) is;
  more = record { by = by; event = event } ∷ [];
  entries = ap (λ (j : Journaled). j.entries) is;
  step = refl;
  legal = legal;
}

-- an event was written down, or nothing after an error
pub leaves_written : {A E : Type 0} (r : Result A E) (by : ℕ) (before after : Journaled) (event : CrewEvent) → OnOk r (after ≡ record before { entries = before.entries ++ record { by = by; event = event } ∷ [] }) → OnErr r (after ≡ before) → IsJournalOf after.task after.entries → Leaves by before after
leaves_written (Ok x) by before after event ok err legal = leaves_more by before after event ok legal
leaves_written (Err e) by before after event ok err legal = leaves_same by before after err legal

-- a pass took the turn, and found this journal
pub record IsFound (lock : TableId) (old mid : Seen) (before : Journaled) : Type 0 where
  pub idle : IsIdle lock old
  pub mid_lock : mid.lock ≡ old.lock
  pub mid_view : mid.view ≡ in_turn old.view before.entries
  pub seen : IsPrefix old.view.seen before.entries
  pub mine : of_pass by_of old.view.number before.entries ≡ old.view.own
  pub base_is : old.view.base ≡ Some before.task

pub same_task : (a b : CrewTask) (base : Option CrewTask) → base ≡ Some a → base ≡ Some b → a ≡ b
same_task a b base x y = let both : Some a ≡ Some b = sym x ∙ y in cc

module _ (lock : TableId) (old mid : Seen) (before : Journaled) (turn : IsFound lock old mid before) where
  -- what was read is read still
  pub read_found : (reading : Reading) → HasRead old.view.seen reading → HasRead before.entries reading
  read_found reading read = read_grows old.view.seen before.entries reading turn.seen read

  -- all that the pass has seen is a front, behind which none is its own
  pub seen_is_front : take (length old.view.seen) before.entries ≡ old.view.seen
  seen_is_front = front_is old.view.seen before.entries turn.seen

  pub others_found : own_of old.view.number old.view.seen ≡ old.view.own → All (λ e. e.by ≢ old.view.number) (drop (length old.view.seen) before.entries)
  others_found own = others_behind old.view.number old.view.seen before.entries turn.seen (turn.mine ∙ sym own)

  pub may_found : (event : CrewEvent) → ((task : CrewTask) → old.view.base ≡ Some task → MayFollow task.translation task.budget old.view.seen old.view.number event) → MayFollow before.task.translation before.task.budget (take (length old.view.seen) before.entries) old.view.number event
  may_found event may = subst (λ (es : List CrewEntry). MayFollow before.task.translation before.task.budget es old.view.number event) (sym seen_is_front) (may before.task turn.base_is)

  -- what the turn may be given back with
  pub may_give : (after : Journaled) → Leaves old.view.number before after → Adds by_of mid.view after.entries
  may_give after leaves =
      (before.entries, leaves.more, ap (λ (v : V). v.turn) turn.mid_view, leaves.entries, subst (λ (n : ℕ). IsStep by_of n leaves.more) (sym (ap (λ (v : V). v.number) turn.mid_view)) leaves.step)

  pub base_kept : (after : Journaled) → Leaves old.view.number before after → mid.view.base ≡ Some after.task
  base_kept after leaves = ap (λ (v : V). v.base) turn.mid_view ∙ turn.base_is ∙ ap Some (sym leaves.task)

module _ (lock : TableId) (old mid new : Seen) (before after : Journaled) (turn : IsFound lock old mid before) (leaves : Leaves old.view.number before after) (new_lock : new.lock ≡ mid.lock) (new_view : new.view ≡ out_of_turn (seeing by_of mid.view after.entries)) where
  whole : new.view ≡ moved old.view after.entries (of_pass by_of old.view.number after.entries) None
  whole = new_view ∙ ap (λ (v : V). out_of_turn (seeing by_of v after.entries)) turn.mid_view

  pub seen_is : new.view.seen ≡ after.entries
  seen_is = ap (λ (v : V). v.seen) whole

  own_is : new.view.own ≡ of_pass by_of old.view.number after.entries
  own_is = ap (λ (v : V). v.own) whole

  number_is : new.view.number ≡ old.view.number
  number_is = ap (λ (v : V). v.number) whole

  pub went_on : WentOn lock old new
  went_on = record {
    idle = record { lock_is = new_lock ∙ turn.mid_lock ∙ turn.idle.lock_is; idle = ap (λ (v : V). v.turn) whole };
    same = whole
        ∙ ap (λ (es : List CrewEntry). moved old.view es (of_pass by_of old.view.number after.entries) None) (sym seen_is)
        ∙ ap (λ (es : List CrewEntry). moved old.view new.view.seen es None) (sym own_is)
        ∙ ap (λ (o : Option (List CrewEntry)). moved old.view new.view.seen new.view.own o) (sym turn.idle.idle);
    seen = subst (IsPrefix old.view.seen) (sym seen_is) (prefix_trans old.view.seen before.entries after.entries turn.seen (leaves.more, sym leaves.entries));
    own = ap (λ (n : ℕ). of_pass by_of n new.view.seen) number_is ∙ ap (of_pass by_of old.view.number) seen_is ∙ sym own_is;
    legal = λ task base.
        let same : after.task ≡ task = leaves.task ∙ same_task before.task task old.view.base turn.base_is base in
        subst (IsJournalOf task) (sym seen_is) (subst (λ (k : CrewTask). IsJournalOf k after.entries) same leaves.legal);
  }

-- a worker's pass is ready still
pub ready_still : (lock : TableId) (base : Option CrewTask) (old new : Seen) → IsReady lock base old → WentOn lock old new → IsReady lock base new
ready_still lock base old new ready went = record {
  idle = went.idle;
  number = λ none. ready.number (sym (ap (λ (v : V). v.number) went.same) ∙ none);
  base_is = ap (λ (v : V). v.base) went.same ∙ ready.base_is;
}

-- the whole list is its own front
pub all_read : (entries : List CrewEntry) (reading : Reading) → HasReadAll entries reading → HasRead entries reading
all_read entries reading read =
    let same : take reading.read entries ≡ entries = take_all reading.read entries (let e = read.all in omega arith) in
    record { within = (let e = read.all in omega arith); found_is = read.found_is ∙ ap found (sym same); told_is = read.told_is ∙ ap told (sym same) }
