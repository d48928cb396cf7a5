use Rattle.std.proofs.Common.{take}
use Rattle.renaming_classes.specs.Classes.{AreClasses}
use Rattle.renaming_classes.proofs.least_members.classes.Given as goal

abbrev pub invariant-loop-scenario : goal.invariant-loop-scenario
invariant-loop-scenario l = AreClasses l.problem (take l.scenario-index l.all) l.found.items
