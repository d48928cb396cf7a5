use Rattle.std.proofs.Common.{◌∙◌, sym, reverse, arith}
use Rattle.bool_circuit.specs.Network.{size}
use Rattle.rel_formula.specs.View.{expression_tree}
use Rattle.rel_translate.proofs.FormulaNodes.{equal_parts, equal_room, constant_room_both, equal_told, equal_none, truth_not}
use Rattle.rel_translate.proofs.comparing.is_equal.Goals as goal

pub matrices-requires-clause-room : goal.matrices-requires-clause-room
matrices-requires-clause-room c = equal_parts c.args.problem.now (reverse c.args.env.now) (size c.args.circuit.now) (expression_tree c.args.a.now) (expression_tree c.args.b.now) c.requires.room

pub equal-requires-clause-arity : goal.equal-requires-clause-arity
equal-requires-clause-arity c = c.in_ok-both.ensures.left.is.arity_is ∙ c.requires.arities ∙ sym c.in_ok-both.ensures.right.is.arity_is

pub equal-requires-clause-room : goal.equal-requires-clause-room
equal-requires-clause-room c = equal_room c.args.problem.now (reverse c.args.env.now) c.in_ok-both.ensures c.requires.room

pub constant-requires : goal.constant-requires
constant-requires c = record { room = constant_room_both c.args.problem.now (reverse c.args.env.now) c.in_ok-both.ensures c.requires.room }

pub returns-then-are_empty : goal.returns-then-are_empty
returns-then-are_empty c =
    let none = c.are_empty.ensures.0 c.if-are_empty.true in
    equal_none c.args.problem.now (reverse c.args.env.now) c.in_ok-both.ensures c.constant.ensures.extends c.in_ok-always.ensures.says c.constant.ensures.size c.in_ok-always.ensures.constant (omega arith) (omega arith)

pub returns : goal.returns
returns c = equal_told c.args.problem.now (reverse c.args.env.now) c.in_ok-both.ensures c.equal.ensures.extends c.in_ok-node.ensures.says c.in_ok-node.ensures.size (truth_not c.are_empty.result c.are_empty.ensures c.if-are_empty.false)
