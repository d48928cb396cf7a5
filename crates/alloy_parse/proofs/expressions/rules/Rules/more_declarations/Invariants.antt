use Rattle.std.proofs.Common.{◌≤◌, true, length, map}
use Rattle.alloy_syntax.specs.declared.class.Class.TheVariants.{Comma}
use Rattle.alloy_syntax.specs.Readers.{next_is}
use Rattle.alloy_syntax.specs.Nodes.{within, another_declaration, more_declarations}
use Rattle.alloy_syntax.specs.View.{declaration_view}
use Rattle.alloy_syntax.proofs.Loop.{Reads}
use Rattle.alloy_parse.proofs.expressions.rules.Rules.more_declarations.Given as goal

abbrev pub invariant-each : goal.invariant-each
invariant-each g l = record {
  reads : Reads (next_is Comma) (another_declaration (within true l.self.room) l.single) ((map declaration_view l.all.items)) l.rest.left.now (more_declarations (within true l.self.room) l.single (declaration_view l.fn.first) l.tokens.left.now);
  shorter : length l.rest.left.now ≤ length l.tokens.left.now;
}

abbrev pub decreases-each : goal.decreases-each
decreases-each g l = length l.rest.left.now
