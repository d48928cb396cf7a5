use Rattle.std.proofs.Common.{◌≡◌, take}
use Rattle.sat_core.specs.Trimmed.{trimmed_by}
use Rattle.sat_core.proofs.trimmed.marked_steps.Given as goal

abbrev pub invariant-loop-place : goal.invariant-loop-place
invariant-loop-place l = l.log ≡ trimmed_by l.given l.numbers (take l.place l.marks) (take l.place l.steps)
