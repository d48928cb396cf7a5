-- What was taken so far is appended.
use Rattle.std.proofs.Common.{◌≡◌, ◌≤◌, ◌-◌, ◌↔◌, ◌++◌, length, take}
use Rattle.outside_io.proofs.sink.write_all.Given as goal

abbrev pub invariant-loop-taken : goal.invariant-loop-taken
invariant-loop-taken g l = record {
  within : l.taken ≤ length l.bytes;
  tells : g.K.Sink.tells l.sink ↔ g.K.Sink.tells l.fn.sink;
  faults : g.K.Sink.faults l.fn.sink ≤ g.K.Sink.faults l.sink;
  bytes : g.K.Sink.tells l.fn.sink → g.K.Sink.written l.sink ≡ g.K.Sink.written l.fn.sink ++ take l.taken l.bytes;
}

abbrev pub decreases-loop-taken : goal.decreases-loop-taken
decreases-loop-taken g l = length l.bytes - l.taken
