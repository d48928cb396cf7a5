use Rattle.sat_core.specs.Trimmed.{AreNeededFrom}
use Rattle.sat_core.proofs.trimmed.needed.Given as goal

abbrev pub invariant-loop-place : goal.invariant-loop-place
invariant-loop-place l = AreNeededFrom l.given l.steps l.place l.marks.items
