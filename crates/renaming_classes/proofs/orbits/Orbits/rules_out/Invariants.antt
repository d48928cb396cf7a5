use Rattle.renaming_classes.proofs.Decided.{AgreeBelow}
use Rattle.renaming_classes.proofs.orbits.Orbits.rules_out.Given as goal

abbrev pub invariant-loop-number : goal.invariant-loop-number
invariant-loop-number l = AgreeBelow l.problem l.self l.scenario l.best l.number
