use Rattle.std.proofs.Common.{◌≡◌, ◌+◌, ◌≤◌, All, length, vec_len}
use mathlib.Core.List.{IsPrefix}
use Rattle.hub_turns.specs.Turned.{IsIdle}
use Rattle.explorer_run.specs.Seats.{IsOut, counted_in}
use Rattle.explorer_run.proofs.Gathering.{HasGathered}
use Rattle.explorer_run.proofs.seats.gather.Given as goal

abbrev pub invariant-loop-seat : goal.invariant-loop-seat
invariant-loop-seat l = record {
  idle : IsIdle l.lock l.root;
  number : l.root.view.number ≡ 0;
  base : l.root.view.base ≡ l.fn.root.view.base;
  own : l.root.view.own ≡ l.fn.root.view.own;
  made : l.root.view.made ≡ l.fn.root.view.made;
  live : l.root.view.live + length l.fn.seats.items ≡ l.fn.root.view.live + length l.seats.items;
  seen : IsPrefix l.fn.root.view.seen l.root.view.seen;
  out : All (IsOut l.lock l.fn.root.view.base) l.seats.items;
  counted : l.count + counted_in l.seats.items ≤ l.fn.count + counted_in l.fn.seats.items;
  gathered : HasGathered l.fn.seats.items l.root.view l.seats.items l.transcripts;
}

abbrev pub decreases-loop-seat : goal.decreases-loop-seat
decreases-loop-seat l = vec_len l.seats
