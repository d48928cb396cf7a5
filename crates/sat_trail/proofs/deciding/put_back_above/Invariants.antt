use Rattle.sat_trail.specs.Waiting.{IsPutBack}
use Rattle.sat_trail.proofs.deciding.put_back_above.Given as goal

abbrev pub invariant-undoing : goal.invariant-undoing
invariant-undoing l = IsPutBack l.now.vars l.now.assigned l.fn.order l.order l.n

abbrev pub decreases-undoing : goal.decreases-undoing
decreases-undoing l = l.n
