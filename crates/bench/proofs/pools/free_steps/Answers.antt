use Rattle.bench.proofs.pools.free_steps.Goals as goal

pub free_of-requires-clause-hints : goal.free_of-requires-clause-hints
free_of-requires-clause-hints c = c.accepted_hints_name_members.ensures.from_one c.args.formula.now.clauses c.args.log.now c.requires
