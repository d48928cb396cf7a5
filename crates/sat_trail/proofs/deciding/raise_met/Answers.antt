use Rattle.sat_trail.proofs.Waiting.{clause_within}
use Rattle.sat_trail.proofs.deciding.raise_met.Goals as goal

pub raise_in-requires-clause-vars : goal.raise_in-requires-clause-vars
raise_in-requires-clause-vars c = rw c.loop-hint.invariant.long (clause_within _ _ _ _ c.len.ensures.clauses c.requires.vars ((c.requires.hints c.loop-hint.hint-index 0 c.loop-hint-test.true).0, c.codes.ensures))
