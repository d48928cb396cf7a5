-- What was read so far is the front of what was left.
use Rattle.std.proofs.Common.{◌≡◌, ◌≤◌, ◌-◌, ◌+◌, ◌↔◌, ◌++◌, vec_len}
use Rattle.outside_io.proofs.source.read_all.Given as goal

abbrev pub invariant-loop-buffer : goal.invariant-loop-buffer
invariant-loop-buffer g l = record {
  within : vec_len l.bytes ≤ l.limit + 1;
  tells : g.S.Source.tells l.source ↔ g.S.Source.tells l.fn.source;
  faults : g.S.Source.faults l.fn.source ≤ g.S.Source.faults l.source;
  bytes : g.S.Source.tells l.fn.source → g.S.Source.left l.fn.source ≡ l.bytes.items ++ g.S.Source.left l.source;
}

abbrev pub decreases-loop-buffer : goal.decreases-loop-buffer
decreases-loop-buffer g l = l.limit + 1 - vec_len l.bytes
