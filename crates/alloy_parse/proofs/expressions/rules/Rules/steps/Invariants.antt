use Rattle.std.proofs.Common.{◌≤◌, true, length, map}
use Rattle.alloy_syntax.specs.Readers.{many}
use Rattle.alloy_syntax.specs.Nodes.{within, begins_step, step_over}
use Rattle.alloy_syntax.specs.View.{step_view}
use Rattle.alloy_syntax.proofs.Loop.{Reads}
use Rattle.alloy_parse.proofs.expressions.rules.Rules.steps.Given as goal

abbrev pub invariant-each : goal.invariant-each
invariant-each g l = record {
  reads : Reads begins_step (step_over (within true l.self.room) l.around) ((map step_view l.all.items)) l.rest.left.now (many begins_step (step_over (within true l.self.room) l.around) l.tokens.left.now);
  shorter : length l.rest.left.now ≤ length l.tokens.left.now;
}

abbrev pub decreases-each : goal.decreases-each
decreases-each g l = length l.rest.left.now
