use Rattle.std.proofs.Common.{◌≤◌, true, length, map}
use Rattle.alloy_syntax.specs.Readers.{many}
use Rattle.alloy_syntax.specs.Nodes.{within, begins_link, link_over, path_over}
use Rattle.alloy_syntax.specs.declared.reading.Level.TheVariants.{Restrict}
use Rattle.alloy_syntax.specs.View.{link_view}
use Rattle.alloy_syntax.proofs.Loop.{Reads}
use Rattle.alloy_parse.proofs.expressions.rules.Rules.path_links.Given as goal

abbrev pub invariant-each : goal.invariant-each
invariant-each g l = record {
  reads : Reads (begins_link Restrict) (link_over Restrict (path_over (within true l.self.room) l.around)) (map link_view l.all.items) l.rest.left.now (many (begins_link Restrict) (link_over Restrict (path_over (within true l.self.room) l.around)) l.tokens.left.now);
  shorter : length l.rest.left.now ≤ length l.tokens.left.now;
}

abbrev pub decreases-each : goal.decreases-each
decreases-each g l = length l.rest.left.now
