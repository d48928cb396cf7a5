use Rattle.std.proofs.Common.{ap, ◌∙◌}
use Rattle.std.specs.List.{list_any}
use Rattle.model_types.specs.Typing.{ends_of}
use Rattle.overload_resolution.proofs.Fields.Unions.{same_ends}
use Rattle.overload_resolution.proofs.shared_fields.tops.ends_of.Goals as goal

pub returns : goal.returns
returns c = λ x h t. c.in_ok-ends.ensures t ∙ ap (λ ls. list_any t (ends_of ls)) c.as_slice.ensures ∙ same_ends c.args.a.now x h t
