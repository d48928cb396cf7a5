use Rattle.explorer_run.specs.Parts.{AreJoined}
use Rattle.explorer_run.proofs.publishing.put_together.Given as goal

abbrev pub invariant-loop-part : goal.invariant-loop-part
invariant-loop-part l = AreJoined l.yielded l.all
