use Rattle.crew_run.proofs.answer.has_given_up.Given as goal

abbrev pub invariant-loop-entry : goal.invariant-loop-entry
invariant-loop-entry l = Unit {0}
