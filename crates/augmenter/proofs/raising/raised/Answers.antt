use Rattle.augmenter.proofs.raising.raised.Goals as goal

pub filled-requires-clause-present : goal.filled-requires-clause-present
filled-requires-clause-present c = c.raises.ensures.more _ c.requires.present

pub filled-requires-clause-closed : goal.filled-requires-clause-closed
filled-requires-clause-closed c = c.raises.ensures.closed c.if-raises.true
