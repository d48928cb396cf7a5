-- What a worker knows from round to round.
use Rattle.std.proofs.Common.{◌≡◌, ◌≤◌, ◌++◌, ℕ, Option, Some, List, [], take, drop, length, sym, ◌∙◌, ap, subst, arith, take-append-drop, length-take}
use Rattle.std.proofs.lemmas.Grind.{flat_map-append}
use Rattle.std.proofs.lemmas.List.{take-append-le, take_all}
use mathlib.Core.List.{IsPrefix}
use Rattle.refutation_check.specs.declared.log.Step.{Step as LogStep}
use Rattle.rel_formula.specs.Instance.{AreCells}
use Rattle.translation_rules.specs.Imports.{IsImport}
use Rattle.atomic_table.specs.Seated.{TableId}
use Rattle.translation_rules.specs.Translation.{Translated}
use Rattle.crew_run.specs.declared.event.CrewEvent.{CrewEvent}
use Rattle.crew_run.specs.declared.event.CrewEntry.{CrewEntry}
use Rattle.crew_run.specs.declared.journal.CrewTask.{CrewTask}
use Rattle.crew_run.specs.declared.reading.Reading.{Reading}
use Rattle.crew_run.specs.declared.round.Searcher.{Searcher}
use Rattle.crew_run.specs.Crew.{found, told, told_by, MayFollow, IsCrewJournal}
use Rattle.crew_run.specs.Passing.{HasRead, HasReadAll, Seen, WentOn, IsReady}
use Rattle.crew_run.specs.Searching.{IsSearcher, IsReadable, IsEventOf}
use Rattle.crew_run.proofs.Turning.{V, same_task, all_read, read_grows}
use Rattle.crew_run.proofs.Events.{readable, event_may_follow}

abbrev pub task_of : Translated → ℕ → ℕ → CrewTask
task_of t budget most = record { translation = t; budget = budget; most = most }

pub nothing_read : (entries : List CrewEntry) (reading : Reading) → reading.found.items ≡ [] → reading.told.items ≡ [] → reading.read ≡ 0 → HasRead entries reading
nothing_read entries reading no_found no_told none = record {
  within = omega arith;
  found_is = no_found ∙ sym (ap (λ (n : ℕ). found (take n entries)) none);
  told_is = no_told ∙ sym (ap (λ (n : ℕ). told (take n entries)) none);
}

-- no steps are those of other searches
pub no_import : (t : Translated) (pool : List LogStep) → pool ≡ [] → IsImport t pool
no_import t pool none = subst (IsImport t) (sym none) (record { accepted = λ i d less. absurd (omega arith); few = omega arith })

-- the empty floor
pub no_cells : (t : Translated) (floor : List ℕ) → floor ≡ [] → AreCells t.problem floor
no_cells t floor none = subst (AreCells t.problem) (sym none) (λ i d less. absurd (omega arith))

-- what was told of before stands first in what is told of later
told_behind : (entries : List CrewEntry) (n : ℕ) → take (length (told (take n entries))) (told entries) ≡ told (take n entries)
told_behind entries n =
    let first = told (take n entries) in
    let whole : first ++ told (drop n entries) ≡ told entries = sym (flat_map-append (λ (e : CrewEntry). told_by e.event) (take n entries) (drop n entries)) ∙ ap told (take-append-drop n entries) in
    ap (take (length first)) (sym whole) ∙ take-append-le (length first) first (told (drop n entries)) (omega arith) ∙ take_all (length first) first (omega arith)

pub told_stays_first : (seen more : List CrewEntry) (old new : Reading) → HasRead seen old → IsPrefix seen more → HasReadAll more new → take (length old.told.items) new.told.items ≡ old.told.items
told_stays_first seen more old new read prefix all =
    let first : old.told.items ≡ told (take old.read more) = (read_grows seen more old prefix read).told_is in
    ap (λ (ts : List (List ℕ)). take (length ts) new.told.items) first ∙ ap (take (length (told (take old.read more)))) all.told_is ∙ told_behind more old.read ∙ sym first

pub no_fewer : (old new : List (List ℕ)) → take (length old) new ≡ old → length old ≤ length new
no_fewer old new first = let long = ap length first in let short = length-take (length old) new in omega arith

-- a searcher that has blocked what was told of before has blocked the front of what is told of later
pub has_blocked_front : (t : Translated) (seen more : List CrewEntry) (old new : Reading) (s : Searcher) (known : ℕ) (slice : List (List ℕ)) → known ≡ length old.told.items → slice ≡ new.told.items →
    HasRead seen old → IsPrefix seen more → HasReadAll more new → IsSearcher t old.told.items s → IsSearcher t (take known slice) s
has_blocked_front t seen more old new s known slice known_is slice_is read prefix all is =
    let front : take known slice ≡ old.told.items = ap (λ (n : ℕ). take n slice) known_is ∙ ap (take (length old.told.items)) slice_is ∙ told_stays_first seen more old new read prefix all in
    subst (λ (ts : List (List ℕ)). IsSearcher t ts s) (sym front) is

module _ (lock : TableId) (t : Translated) (budget most : ℕ) (old mid : Seen) (reading : Reading) (ready : IsReady lock (Some (task_of t budget most)) old) (went : WentOn lock old mid) (read : HasReadAll mid.view.seen reading) where
  legal_read : IsCrewJournal t budget most mid.view.seen
  legal_read = went.legal (task_of t budget most) ready.base_is

  pub readable_read : most ≤ 1000000 → IsReadable t reading
  readable_read small = readable t budget most mid.view.seen legal_read reading read small

  -- what a round comes to may be written down
  pub may_write : (event : CrewEvent) → IsEventOf t budget reading event → (task : CrewTask) → mid.view.base ≡ Some task → MayFollow task.translation task.budget mid.view.seen mid.view.number event
  may_write event is task base =
      let same : task_of t budget most ≡ task = same_task (task_of t budget most) task mid.view.base (ap (λ (v : V). v.base) went.same ∙ ready.base_is) base in
      subst (λ (k : CrewTask). MayFollow k.translation k.budget mid.view.seen mid.view.number event) same (event_may_follow t budget most mid.view.seen legal_read reading read mid.view.number event is)

  -- after the turn that writes
  pub read_still : (new : Seen) → WentOn lock mid new → HasRead new.view.seen reading
  read_still new wrote = read_grows mid.view.seen new.view.seen reading wrote.seen (all_read mid.view.seen reading read)

-- a turn leaves the pass ready for the next
pub ready_still : (lock : TableId) (base : Option CrewTask) (old new : Seen) → IsReady lock base old → WentOn lock old new → IsReady lock base new
ready_still lock base old new ready went = record {
  idle = went.idle;
  number = λ none. ready.number (sym (ap (λ (v : V). v.number) went.same) ∙ none);
  base_is = ap (λ (v : V). v.base) went.same ∙ ready.base_is;
}
