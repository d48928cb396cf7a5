use Rattle.std.proofs.Common.{length}
use Rattle.alloy_syntax.specs.declared.class.Class.TheVariants.{Open}
use Rattle.alloy_syntax.specs.Readers.{next_is, many}
use Rattle.alloy_syntax.specs.Paragraphs.{open_at}
use Rattle.alloy_syntax.proofs.Loop.{Reads}
use Rattle.alloy_parse.proofs.paragraphs.opens.Given as goal

abbrev pub invariant-each : goal.invariant-each
invariant-each l = Reads (next_is Open) open_at l.all.items l.rest.left.now (many (next_is Open) open_at l.tokens.left.now)

abbrev pub decreases-each : goal.decreases-each
decreases-each l = length l.rest.left.now
