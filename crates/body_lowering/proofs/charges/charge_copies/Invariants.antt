use Rattle.std.proofs.Common.{◌≡◌, ◌+◌, ◌*◌}
use Rattle.rel_formula.specs.View.{expression_tree}
use Rattle.body_lowering.specs.Nodes.{nodes_of}
use Rattle.body_lowering.proofs.charges.charge_copies.Given as goal

abbrev pub invariant-loop : goal.invariant-loop
invariant-loop l = l.room.nodes + l.counter * (nodes_of (expression_tree l.e) + 1) ≡ l.fn.room.nodes
