use Rattle.std.proofs.Common.{◌≡◌, take, map}
use Rattle.sat_core.specs.Trimmed.{number_by}
use Rattle.sat_core.proofs.trimmed.renumbered.Given as goal

abbrev pub invariant-loop-hint : goal.invariant-loop-hint
invariant-loop-hint l = l.hints.items ≡ map (number_by l.given l.numbers) (take l.hint-index l.step.hints)
