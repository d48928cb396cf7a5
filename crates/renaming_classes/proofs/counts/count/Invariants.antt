use Rattle.std.proofs.Common.{◌≡◌, take}
use Rattle.std.specs.List.{count_by}
use Rattle.renaming_classes.specs.Counts.{is_of}
use Rattle.renaming_classes.proofs.counts.count.Given as goal

abbrev pub invariant-loop-tuple : goal.invariant-loop-tuple
invariant-loop-tuple l = l.found ≡ count_by (is_of l.fn.top) (take l.tuple-index l.atoms)
