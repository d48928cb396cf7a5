use Rattle.std.proofs.Common.{true, map, length}
use Rattle.alloy_syntax.specs.Readers.{many}
use Rattle.alloy_syntax.specs.Paragraphs.{depth_limit, is_left, paragraph_at}
use Rattle.alloy_syntax.specs.View.{paragraph_view}
use Rattle.alloy_syntax.proofs.Loop.{Reads}
use Rattle.alloy_parse.proofs.paragraphs.all_paragraphs.Given as goal

abbrev pub invariant-each : goal.invariant-each
invariant-each l =
    Reads is_left (paragraph_at true depth_limit) (map paragraph_view l.all.items) l.rest.left.now (many is_left (paragraph_at true depth_limit) l.tokens.left.now)

abbrev pub decreases-each : goal.decreases-each
decreases-each l = length l.rest.left.now
