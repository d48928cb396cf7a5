use Rattle.std.proofs.Common.{◌∙◌}
use Rattle.overload_resolution.proofs.Fields.Unions.{same_behind}
use Rattle.overload_resolution.proofs.shared_fields.tops.tops_behind.Goals as goal

pub returns : goal.returns
returns c = λ x h t. c.in_ok-tops.ensures t ∙ same_behind c.args.operator c.args.a.now x h t
