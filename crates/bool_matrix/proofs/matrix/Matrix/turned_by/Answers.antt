use Rattle.std.proofs.Common.{Bool, ℕ, subst, sym}
use Rattle.tuple_core.specs.declared.operator.UnaryOperator.{UnaryOperator}
use Rattle.tuple_core.specs.Operators.{turned}
use Rattle.bool_matrix.specs.Cells.{ThereIn, TrueIn, IsMatrixOf}
use Rattle.bool_matrix.proofs.matrix.Matrix.turned_by.Goals as goal

pub returns-in_ok-transposed-in-Transpose-clause-is : goal.returns-in_ok-transposed-in-Transpose-clause-is
returns-in_ok-transposed-in-Transpose-clause-is c =
    let m = c.args.self.now in
    let network = c.args.circuit.now in
    subst (λ (o : UnaryOperator). IsMatrixOf network c.in_ok-transposed-in-Transpose.field-0 2 (λ (inputs : ℕ → Bool). turned o (TrueIn network m inputs)) (turned o (ThereIn m)))
    (sym c.in-Transpose.is) (c.in_ok-transposed-in-Transpose.ensures.is network c.requires.of)
