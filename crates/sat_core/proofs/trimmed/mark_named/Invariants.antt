use Rattle.std.proofs.Common.{take}
use Rattle.sat_core.specs.Trimmed.{IsMarkedBy}
use Rattle.sat_core.proofs.trimmed.mark_named.Given as goal

abbrev pub invariant-loop-hint : goal.invariant-loop-hint
invariant-loop-hint l = IsMarkedBy l.given (take l.hint-index l.hints) l.fn.marks.items l.marks.items
