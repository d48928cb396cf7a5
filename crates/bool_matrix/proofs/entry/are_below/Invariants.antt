use Rattle.std.proofs.Common.{◌<◌, All, take}
use Rattle.bool_matrix.proofs.entry.are_below.Given as goal

abbrev pub invariant-loop-entry : goal.invariant-loop-entry
invariant-loop-entry l = All (λ e. e.node < l.len) (take l.entry-index l.entries)
