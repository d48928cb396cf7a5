use Rattle.hub_tests.proofs.Restating.{accepted}
use Rattle.hub_tests.proofs.of_hub_state.restated.Goals as goal

pub returns : goal.returns
returns c = accepted c.args.cnf.now.clauses c.clause-first.result.now c.loop-made.log c.clause-first.ensures.clause c.loop-made.invariant.all
