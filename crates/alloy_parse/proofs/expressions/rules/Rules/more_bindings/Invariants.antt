use Rattle.std.proofs.Common.{◌≤◌, true, length, map}
use Rattle.alloy_syntax.specs.declared.class.Class.TheVariants.{Comma}
use Rattle.alloy_syntax.specs.Readers.{next_is, behind, others}
use Rattle.alloy_syntax.specs.Nodes.{within, binding_over}
use Rattle.alloy_syntax.specs.View.{binding_view}
use Rattle.alloy_syntax.proofs.Loop.{Reads}
use Rattle.alloy_parse.proofs.expressions.rules.Rules.more_bindings.Given as goal

abbrev pub invariant-each : goal.invariant-each
invariant-each g l = record {
  reads : Reads (next_is Comma) (behind (binding_over (within true l.self.room))) ((map binding_view l.all.items)) l.rest.left.now (others (binding_over (within true l.self.room)) (binding_view l.fn.first) l.tokens.left.now);
  shorter : length l.rest.left.now ≤ length l.tokens.left.now;
}

abbrev pub decreases-each : goal.decreases-each
decreases-each g l = length l.rest.left.now
