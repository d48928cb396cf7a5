use Rattle.std.proofs.Common.{◌≤◌, ◌+◌, ◌*◌, true, map, length}
use Rattle.alloy_syntax.specs.Readers.{many}
use Rattle.alloy_syntax.specs.Nodes.{within, begins_link, link_over}
use Rattle.alloy_syntax.specs.View.{link_view}
use Rattle.alloy_syntax.proofs.Loop.{Reads}
use Rattle.alloy_parse.specs.Nodes.Levels.{operand_over, levels_below}
use Rattle.alloy_parse.proofs.expressions.rules.Rules.+levels.Given as goal

-- each call goes down the levels, and within one level down this number

abbrev pub decreases-chain : goal.decreases-chain
decreases-chain g l = 16 * levels_below l.level + 12

abbrev pub decreases-linked : goal.decreases-linked
decreases-linked g l = 16 * levels_below l.level + 11

abbrev pub decreases-links : goal.decreases-links
decreases-links g l = 16 * levels_below l.level + 10

abbrev pub decreases-link : goal.decreases-link
decreases-link g l = 16 * levels_below l.level + 9

abbrev pub decreases-operand : goal.decreases-operand
decreases-operand g l = 16 * levels_below l.level + 8

-- between `<=>` and `&&`
abbrev pub decreases-implication : goal.decreases-implication
decreases-implication g l = 80

-- between `&&` and `+`
abbrev pub decreases-negation : goal.decreases-negation
decreases-negation g l = 65

abbrev pub decreases-comparison : goal.decreases-comparison
decreases-comparison g l = 64

abbrev pub decreases-compared_with : goal.decreases-compared_with
decreases-compared_with g l = 63

abbrev pub decreases-right_side : goal.decreases-right_side
decreases-right_side g l = 62

abbrev pub decreases-counted : goal.decreases-counted
decreases-counted g l = 61

-- between `+` and `++`
abbrev pub decreases-size : goal.decreases-size
decreases-size g l = 48

-- loops

abbrev pub invariant-links-each : goal.invariant-links-each
invariant-links-each g l = record {
  reads : Reads (begins_link l.level) (link_over l.level (operand_over l.level (within true l.self.room) l.around)) (map link_view l.all.items) l.rest.left.now (many (begins_link l.level) (link_over l.level (operand_over l.level (within true l.self.room) l.around)) l.tokens.left.now);
  shorter : length l.rest.left.now ≤ length l.tokens.left.now;
}

abbrev pub decreases-links-each : goal.decreases-links-each
decreases-links-each g l = length l.rest.left.now
