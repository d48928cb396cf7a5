use Rattle.std.proofs.Common.{true, ◌≤◌, map, length}
use Rattle.alloy_syntax.specs.Bounds.{bound_within}
use Rattle.alloy_parse.specs.Bounds.{standing_view, operand_view}
use Rattle.alloy_parse.proofs.Operands.{Gathers}
use Rattle.alloy_parse.proofs.bounds.Rules.operands.Given as goal

abbrev pub invariant-each : goal.invariant-each
invariant-each g l = record {
  gathers : Gathers (bound_within true l.self.room) (standing_view l.standing) (map operand_view l.all.items) l.has_arrow l.rest.left.now l.tokens.left.now;
  shorter : length l.rest.left.now ≤ length l.tokens.left.now;
}

abbrev pub decreases-each : goal.decreases-each
decreases-each g l = length l.rest.left.now
