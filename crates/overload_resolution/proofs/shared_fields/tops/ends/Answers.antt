use Rattle.std.proofs.Common.{arith}
use Rattle.model_types.specs.Bounding.{end_of}
use Rattle.overload_resolution.proofs.Fields.Unions.{whole}
use Rattle.overload_resolution.proofs.shared_fields.tops.ends.Goals as goal

pub returns : goal.returns
returns c = whole end_of c.args.lists.now c.loop-list.list-index c.loop-list.tops (omega arith) c.loop-list.invariant
