-- What contracts see of the code's kinds.
use Rattle.std.specs.Prelude.{Result, Ok, Err}
use Rattle.model_types.specs.declared.fault.TypeFault.{TypeFault}
use Rattle.model_types.specs.Sorts as sorts
use Rattle.model_types.specs.declared.part_sorts.kinds.Kind.{Kind}
use Rattle.model_types.specs.declared.part_sorts.kinds.Kind.TheVariants as kind

abbrev pub kind_view : Kind → sorts.Kind
kind_view (kind.Relation n) = sorts.relation n
kind_view kind.Formula = sorts.formula
kind_view kind.Number = sorts.number
kind_view kind.Size = sorts.size

abbrev pub kind_seen : Result Kind TypeFault → Result sorts.Kind TypeFault
kind_seen (Ok k) = Ok (kind_view k)
kind_seen (Err e) = Err e
