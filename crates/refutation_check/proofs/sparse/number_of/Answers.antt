use Rattle.refutation_check.proofs.Numbers.{never_absent}
use Rattle.refutation_check.proofs.sparse.number_of.Goals as goal

pub returns-in-Err-clause-in_range : goal.returns-in-Err-clause-in_range
returns-in-Err-clause-in_range c = absurd (never_absent c.args.names.now c.requires.numbering c.args.var c.in-Err.number c.requires.numbered c.in-Err.ensures.position)

pub returns-in-Err-clause-named : goal.returns-in-Err-clause-named
returns-in-Err-clause-named c = absurd (never_absent c.args.names.now c.requires.numbering c.args.var c.in-Err.number c.requires.numbered c.in-Err.ensures.position)
