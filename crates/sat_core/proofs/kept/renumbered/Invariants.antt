use Rattle.std.proofs.Common.{◌≡◌, take, map}
use Rattle.sat_core.specs.Kept.{number_in}
use Rattle.sat_core.proofs.kept.renumbered.Given as goal

abbrev pub invariant-loop-hint : goal.invariant-loop-hint
invariant-loop-hint l = l.hints.items ≡ map (number_in l.numbers) (take l.hint-index l.step.hints)
