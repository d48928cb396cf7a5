use Rattle.std.proofs.Common.{◌==◌, reverse}
use Rattle.bool_circuit.specs.Network.{size}
use Rattle.rel_formula.specs.View.{expression_tree}
use Rattle.rel_translate.proofs.FormulaNodes.{count_parts, count_room, count_room_none, count_told, count_none, truth_not, zero_says}
use Rattle.rel_translate.proofs.comparing.has_at_least.Goals as goal

pub matrix-requires-clause-room : goal.matrix-requires-clause-room
matrix-requires-clause-room c = count_parts c.args.problem.now (reverse c.args.env.now) (size c.args.circuit.now) c.args.n (expression_tree c.args.e.now) c.requires.room

pub at_least-requires-clause-room : goal.at_least-requires-clause-room
at_least-requires-clause-room c = count_room c.args.problem.now (reverse c.args.env.now) c.args.n c.in_ok-tuples.ensures c.requires.room

pub constant-requires : goal.constant-requires
constant-requires c = record { room = count_room_none c.args.problem.now (reverse c.args.env.now) c.args.n c.in_ok-tuples.ensures c.requires.room }

pub returns-then-is_empty : goal.returns-then-is_empty
returns-then-is_empty c = count_none c.args.problem.now (reverse c.args.env.now) c.args.n c.in_ok-tuples.ensures c.constant.ensures.extends (c.args.n == 0) (zero_says c.args.n) c.in_ok-few.ensures.says c.constant.ensures.size c.in_ok-few.ensures.constant (c.is_empty.ensures.0 c.if-is_empty.true)

pub returns : goal.returns
returns c = count_told c.args.problem.now (reverse c.args.env.now) c.args.n c.in_ok-tuples.ensures c.at_least.ensures.extends c.in_ok-node.ensures.says c.in_ok-node.ensures.size (truth_not c.is_empty.result c.is_empty.ensures c.if-is_empty.false)
