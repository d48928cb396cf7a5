use Rattle.overload_resolution.specs.Fields.Alike.{AreAlike, single}
use Rattle.overload_resolution.proofs.Fields.Unions.{added}
use Rattle.overload_resolution.proofs.shared_fields.tops.all_alone.Given as goal

abbrev pub invariant-loop-list : goal.invariant-loop-list
invariant-loop-list l = AreAlike l.tops (added single l.lists l.list-index)
