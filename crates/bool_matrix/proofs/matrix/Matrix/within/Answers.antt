use Rattle.bool_matrix.proofs.ComparedEntries.{says_same, within_kept}
use Rattle.bool_matrix.proofs.matrix.Matrix.within.Goals as goal

pub returns-clause-says : goal.returns-clause-says
returns-clause-says c =
    says_same (λ s.
    let kept = within_kept c.args.circuit.now c.constant.new.self c.constant.ensures.extends c.args.self.now c.args.other.now c.requires.of c.requires.of_other s in
    (λ p. kept.0 p.1, λ w. (c.in_ok-start.ensures.value.value s, kept.1 w))) c.in_ok-all.ensures.says
