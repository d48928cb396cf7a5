use Rattle.std.proofs.Common.{◌≤◌, true, length}
use Rattle.alloy_syntax.specs.declared.class.Class.TheVariants.{Comma}
use Rattle.alloy_syntax.specs.declared.reading.Around.TheVariants.{Brackets}
use Rattle.alloy_syntax.specs.declared.reading.Inside.TheVariants.{Node}
use Rattle.alloy_syntax.specs.Readers.{next_is, behind, others}
use Rattle.alloy_syntax.specs.Nodes.{within}
use Rattle.alloy_syntax.specs.View.{view, views}
use Rattle.alloy_syntax.proofs.Loop.{Reads}
use Rattle.alloy_parse.proofs.expressions.rules.Rules.more_arguments.Given as goal

abbrev pub invariant-each : goal.invariant-each
invariant-each g l = record {
  reads : Reads (next_is Comma) (behind ((within true l.self.room) Brackets Node)) (views l.all.items) l.rest.left.now (others ((within true l.self.room) Brackets Node) (view l.fn.first) l.tokens.left.now);
  shorter : length l.rest.left.now ≤ length l.tokens.left.now;
}

abbrev pub decreases-each : goal.decreases-each
decreases-each g l = length l.rest.left.now
