use Rattle.std.proofs.Common.{◌∙◌, sym, reverse}
use Rattle.bool_circuit.specs.Network.{size}
use Rattle.rel_formula.specs.View.{expression_tree}
use Rattle.rel_translate.proofs.FormulaNodes.{within_parts, within_room, constant_room, within_told, within_none, truth_not}
use Rattle.rel_translate.proofs.comparing.is_within.Goals as goal

pub matrices-requires-clause-room : goal.matrices-requires-clause-room
matrices-requires-clause-room c = within_parts c.args.problem.now (reverse c.args.env.now) (size c.args.circuit.now) (expression_tree c.args.a.now) (expression_tree c.args.b.now) c.requires.room

pub subset-requires-clause-arity : goal.subset-requires-clause-arity
subset-requires-clause-arity c = c.in_ok-both.ensures.left.is.arity_is ∙ c.requires.arities ∙ sym c.in_ok-both.ensures.right.is.arity_is

pub subset-requires-clause-room : goal.subset-requires-clause-room
subset-requires-clause-room c = within_room c.args.problem.now (reverse c.args.env.now) c.in_ok-both.ensures c.requires.room

pub constant-requires : goal.constant-requires
constant-requires c = record { room = constant_room c.args.problem.now (reverse c.args.env.now) c.in_ok-both.ensures c.requires.room }

pub returns-then-is_empty : goal.returns-then-is_empty
returns-then-is_empty c = within_none c.args.problem.now (reverse c.args.env.now) c.in_ok-both.ensures c.constant.ensures.extends c.in_ok-always.ensures.says c.constant.ensures.size c.in_ok-always.ensures.constant (c.is_empty.ensures.0 c.if-is_empty.true)

pub returns : goal.returns
returns c = within_told c.args.problem.now (reverse c.args.env.now) c.in_ok-both.ensures c.subset.ensures.extends c.in_ok-node.ensures.says c.in_ok-node.ensures.size (truth_not c.is_empty.result c.is_empty.ensures c.if-is_empty.false)
