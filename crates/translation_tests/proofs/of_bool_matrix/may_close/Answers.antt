use Rattle.std.proofs.Common.{◌+◌, ◌≤◌, ◌<◌, ℕ, List, length, ap, arith}
use Rattle.tuple_core.specs.declared.operator.UnaryOperator.{UnaryOperator}
use Rattle.tuple_core.specs.declared.operator.UnaryOperator.TheVariants as unary_operator
use Rattle.bool_matrix.specs.declared.entry.Entry.{Entry}
use Rattle.bool_matrix.specs.Cells.{Cells, ThereIn}
use Rattle.bool_matrix.specs.Work.{MayTurn}
use Rattle.bool_circuit.specs.Network.{size}
use Rattle.bool_matrix.proofs.SmallMatrices.{few_atoms, small_room}
use Rattle.translation_tests.proofs.of_bool_matrix.may_close.Goals as goal

may_turn : (m : Cells) (used : ℕ) → length m.entries ≤ 8 → used < 1000010 → (o : UnaryOperator) → MayTurn o used 1073741823 (ThereIn m)
may_turn m used few nodes unary_operator.Transpose = tt
may_turn m used few nodes unary_operator.Closure = (few_atoms m 64 (omega arith), small_room m used 1073741823 (omega arith) (omega arith))

pub returns-clause-may : goal.returns-clause-may
returns-clause-may c = λ h o.
    let same = ap (λ (es : List Entry). length es) c.entries.ensures.value in
    may_turn c.args.pairs.now (size c.args.circuit.now) (omega arith) (c.is_small.ensures.nodes h) o
