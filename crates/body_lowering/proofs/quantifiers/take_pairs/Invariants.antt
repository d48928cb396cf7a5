use Rattle.std.proofs.Common.{◌≡◌, ◌+◌, ◌*◌}
use Rattle.body_lowering.proofs.quantifiers.take_pairs.Given as goal

abbrev pub invariant-loop-before : goal.invariant-loop-before
invariant-loop-before l = l.room.nodes + 2 * (l.before * l.before) ≡ l.fn.room.nodes + 2 * l.before
