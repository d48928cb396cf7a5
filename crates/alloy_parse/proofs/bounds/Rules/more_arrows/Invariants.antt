use Rattle.std.proofs.Common.{true, ◌≤◌, map, length}
use Rattle.alloy_syntax.specs.View.{arrow_view}
use Rattle.alloy_syntax.specs.Bounds.{begins_bound_arrow, bound_arrow_over, more_bound_arrows, bound_within}
use Rattle.alloy_syntax.proofs.Loop.{Reads}
use Rattle.alloy_parse.specs.Bounds.{standing_view, word_view}
use Rattle.alloy_parse.proofs.bounds.Rules.more_arrows.Given as goal

abbrev pub invariant-each : goal.invariant-each
invariant-each g l = record {
  reads : Reads begins_bound_arrow (bound_arrow_over true (bound_within true l.self.room) (standing_view l.before.standing) (word_view l.before.marked) l.before.has_arrow) (map arrow_view l.all.items) l.rest.left.now (more_bound_arrows true (bound_within true l.self.room) (standing_view l.fn.standing) (word_view l.fn.marked) (arrow_view l.fn.first) l.tokens.left.now);
  shorter : length l.rest.left.now ≤ length l.tokens.left.now;
}

abbrev pub decreases-each : goal.decreases-each
decreases-each g l = length l.rest.left.now
