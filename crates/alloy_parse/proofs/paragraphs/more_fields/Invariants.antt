use Rattle.std.proofs.Common.{true, ◌≤◌, map, length}
use Rattle.alloy_syntax.specs.declared.class.Class.TheVariants.{Comma}
use Rattle.alloy_syntax.specs.Readers.{next_is, behind, others}
use Rattle.alloy_syntax.specs.Paragraphs.{depth_limit, field_at}
use Rattle.alloy_syntax.specs.View.{field_view}
use Rattle.alloy_syntax.proofs.Loop.{Reads}
use Rattle.alloy_parse.proofs.paragraphs.more_fields.Given as goal

abbrev pub invariant-each : goal.invariant-each
invariant-each l = record {
  reads : Reads (next_is Comma) (behind (field_at true depth_limit)) (map field_view l.all.items) l.rest.left.now (others (field_at true depth_limit) (field_view l.fn.first) l.tokens.left.now);
  shorter : length l.rest.left.now ≤ length l.tokens.left.now;
}

abbrev pub decreases-each : goal.decreases-each
decreases-each l = length l.rest.left.now
