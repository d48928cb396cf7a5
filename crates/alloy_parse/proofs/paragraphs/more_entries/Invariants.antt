use Rattle.std.proofs.Common.{◌≤◌, length}
use Rattle.alloy_syntax.specs.declared.class.Class.TheVariants.{Comma}
use Rattle.alloy_syntax.specs.Readers.{next_is, behind, others}
use Rattle.alloy_syntax.specs.Paragraphs.{entry_at}
use Rattle.alloy_syntax.proofs.Loop.{Reads}
use Rattle.alloy_parse.proofs.paragraphs.more_entries.Given as goal

abbrev pub invariant-each : goal.invariant-each
invariant-each l = record {
  reads : Reads (next_is Comma) (behind entry_at) l.all.items l.rest.left.now (others entry_at l.fn.first l.tokens.left.now);
  shorter : length l.rest.left.now ≤ length l.tokens.left.now;
}

abbrev pub decreases-each : goal.decreases-each
decreases-each l = length l.rest.left.now
