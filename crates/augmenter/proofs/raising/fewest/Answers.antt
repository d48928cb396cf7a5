use Rattle.augmenter.proofs.raising.fewest.Goals as goal

pub filled-requires-clause-closed : goal.filled-requires-clause-closed
filled-requires-clause-closed c = c.assumes.ensures.closed c.if-assumes.true
