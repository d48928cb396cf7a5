use Rattle.std.proofs.Common.{◌≤◌, true, length}
use Rattle.alloy_syntax.specs.declared.reading.Around.TheVariants.{Braces}
use Rattle.alloy_syntax.specs.declared.reading.Inside.TheVariants.{Node}
use Rattle.alloy_syntax.specs.Readers.{many}
use Rattle.alloy_syntax.specs.Nodes.{within, is_inner}
use Rattle.alloy_syntax.specs.View.{views}
use Rattle.alloy_syntax.proofs.Loop.{Reads}
use Rattle.alloy_parse.proofs.expressions.rules.Rules.formulas.Given as goal

abbrev pub invariant-each : goal.invariant-each
invariant-each g l = record {
  reads : Reads is_inner ((within true l.self.room) Braces Node) (views l.all.items) l.rest.left.now (many is_inner ((within true l.self.room) Braces Node) l.tokens.left.now);
  shorter : length l.rest.left.now ≤ length l.tokens.left.now;
}

abbrev pub decreases-each : goal.decreases-each
decreases-each g l = length l.rest.left.now
