use Rattle.std.proofs.Common.{◌≡◌, take, map}
use Rattle.sat_core.specs.Assuming.{number_of}
use Rattle.sat_core.proofs.locals.Numbering.step.Given as goal

abbrev pub invariant-loop-hint : goal.invariant-loop-hint
invariant-loop-hint l = l.numbers.items ≡ map (number_of l.self.clauses l.self.local l.self.places.items) (take l.hint-index l.step.hints)
