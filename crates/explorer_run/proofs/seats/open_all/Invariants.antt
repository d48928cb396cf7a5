use Rattle.std.proofs.Common.{◌≡◌, ◌+◌, ◌≤◌, length, vec_capacity}
use Rattle.explorer_run.specs.declared.seats.Seat.{Seat}
use Rattle.explorer_run.specs.Served.{values_of}
use Rattle.explorer_run.specs.Seats.{StaysRoot, IsReady, IsPlaced, EachSeat}
use Rattle.explorer_run.proofs.seats.open_all.Given as goal

abbrev pub invariant-loop-script : goal.invariant-loop-script
invariant-loop-script g l = record {
  root : StaysRoot l.lock (values_of l.translations) l.fn.root l.root;
  made : l.root.view.made ≡ l.fn.root.view.made + l.script-index;
  live : l.root.view.live ≡ l.fn.root.view.live + l.script-index;
  count : length l.seats.items ≡ l.script-index;
  room : length l.scripts ≤ vec_capacity l.seats;
  ready : EachSeat (λ k (seat : Seat). IsReady l.lock (values_of l.translations) l.scripts k seat × IsPlaced l.fn.root.view.base (l.fn.root.view.made + 1) k seat) l.seats.items;
}
