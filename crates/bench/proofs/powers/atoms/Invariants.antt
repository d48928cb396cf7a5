use Rattle.bench.specs.Powers.{AreAtoms}
use Rattle.bench.proofs.powers.atoms.Given as goal

abbrev pub invariant-loop-place : goal.invariant-loop-place
invariant-loop-place l = AreAtoms l.set
