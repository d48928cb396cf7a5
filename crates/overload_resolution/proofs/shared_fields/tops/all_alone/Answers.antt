use Rattle.std.proofs.Common.{ap, ◌∙◌, arith}
use Rattle.std.specs.List.{list_any}
use Rattle.model_types.specs.Bounds.Same.{lists_of}
use Rattle.overload_resolution.specs.Fields.Alike.{single}
use Rattle.overload_resolution.proofs.Fields.Unions.{whole, singles_are}
use Rattle.overload_resolution.proofs.shared_fields.tops.all_alone.Goals as goal

pub returns : goal.returns
returns c = λ t. whole single c.args.lists.now c.loop-list.list-index c.loop-list.tops (omega arith) c.loop-list.invariant t ∙ ap (list_any t) (singles_are (lists_of c.args.lists.now))
