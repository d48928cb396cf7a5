use Rattle.std.proofs.Common.{◌+◌, ◌-◌, ◌*◌, length}
use Rattle.renaming_classes.proofs.Searching.{Tried, at_or_any}
use Rattle.renaming_classes.proofs.placing.Placing.+placing.Given as goal

abbrev pub decreases-visit : goal.decreases-visit
decreases-visit l = 3 * (length l.self.now.atoms.items - l.placed) + 2

abbrev pub decreases-place : goal.decreases-place
decreases-place l = 3 * (length l.self.now.atoms.items - l.placed) + 1

abbrev pub decreases-put : goal.decreases-put
decreases-put l = 3 * (length l.self.now.atoms.items - l.placed)

abbrev pub invariant-place-loop-other : goal.invariant-place-loop-other
invariant-place-loop-other l = Tried l.problem l.self.atoms.items l.placed (at_or_any l.self.atoms.items l.placed) l.scenario l.fn.best l.best l.other
