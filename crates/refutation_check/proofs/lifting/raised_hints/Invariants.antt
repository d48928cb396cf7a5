use Rattle.std.proofs.Common.{◌≡◌, take, map}
use Rattle.refutation_check.specs.Lift.{lifted_hint}
use Rattle.refutation_check.proofs.lifting.raised_hints.Given as goal

abbrev pub invariant-loop-hint : goal.invariant-loop-hint
invariant-loop-hint l = l.raised.items ≡ map (lifted_hint l.base l.added) (take l.hint-index l.hints)
