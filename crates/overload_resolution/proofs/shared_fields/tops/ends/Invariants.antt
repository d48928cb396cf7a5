use Rattle.model_types.specs.Bounding.{end_of}
use Rattle.overload_resolution.specs.Fields.Alike.{AreAlike}
use Rattle.overload_resolution.proofs.Fields.Unions.{added}
use Rattle.overload_resolution.proofs.shared_fields.tops.ends.Given as goal

abbrev pub invariant-loop-list : goal.invariant-loop-list
invariant-loop-list l = AreAlike l.tops (added end_of l.lists l.list-index)
