use Rattle.bool_circuit.proofs.CallerLemmas.{Extends-trans}
use Rattle.bool_matrix.proofs.ComparedEntries.{says_same, within_kept}
use Rattle.bool_matrix.proofs.matrix.Matrix.equal_to.Goals as goal

pub returns-clause-says : goal.returns-clause-says
returns-clause-says c =
    let old = c.args.circuit.now in
    let w = c.constant.new.self in
    let v = c.all_within.new.circuit in
    says_same (λ s.
    let kept = within_kept old w c.constant.ensures.extends c.args.self.now c.args.other.now c.requires.of c.requires.of_other s in
    let kept' = within_kept old v (Extends-trans old w v c.constant.ensures.extends c.all_within.ensures.extends) c.args.other.now c.args.self.now c.requires.of_other c.requires.of s in
    let there = c.in_ok-there.ensures.says.value s in
    (λ p. (kept.0 (there.0 p.0).1, kept'.0 p.1), λ p. (there.1 (c.in_ok-start.ensures.value.value s, kept.1 p.0), kept'.1 p.1))) c.in_ok-both.ensures.says
