use Rattle.std.proofs.Common.{take, Contains}
use Rattle.crew_run.specs.Crew.{told}
use Rattle.crew_run.proofs.writing.is_told.Given as goal

abbrev pub invariant-loop-entry : goal.invariant-loop-entry
invariant-loop-entry l = ¬ Contains (told (take l.entry-index l.entries)) l.scenario
