use Rattle.hub_tests.proofs.Restating.{no_literals}
use Rattle.hub_tests.proofs.of_hub_state.empty_clause.Goals as goal

pub returns-in-Some : goal.returns-in-Some
returns-in-Some c = no_literals c.in-Some.clause (rw c.in-Some.is at c.in_ok-clause.ensures.same)
