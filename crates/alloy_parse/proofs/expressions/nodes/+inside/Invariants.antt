use Rattle.alloy_parse.proofs.expressions.nodes.+inside.Given as goal

abbrev pub decreases-inside : goal.decreases-inside
decreases-inside l = l.room
