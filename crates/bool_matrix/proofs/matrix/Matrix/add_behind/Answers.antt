use Rattle.std.proofs.Common.{◌∙◌, sym, subst, IsTrue}
use Rattle.tuple_core.proofs.Congruence.{same_itself, United-same}
use Rattle.bool_matrix.proofs.Loops.{matrix_same, matrix_then}
use Rattle.bool_matrix.proofs.matrix.Matrix.add_behind.Goals as goal

pub returns-clause-gains : goal.returns-clause-gains
returns-clause-gains c =
    matrix_same (λ s. United-same (same_itself _) (let same = c.add_all.ensures.extends.same c.args.entry.now.node s c.requires.node in record { to = λ t h. (h.0 ∙ c.copy.ensures, subst IsTrue same h.1); back = λ t h. (h.0 ∙ sym c.copy.ensures, subst IsTrue (sym same) h.1) }))
    (United-same (same_itself _) (record { to = λ t h. h ∙ c.copy.ensures; back = λ t h. h ∙ sym c.copy.ensures }))
    (matrix_then c.in_ok-add_all.ensures.gains c.in_ok-add.ensures.gains)
