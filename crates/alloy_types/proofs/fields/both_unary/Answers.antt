use Rattle.named_model.specs.View.{phrase_view}
use Rattle.overload_resolution.specs.Scopes.Declaring.{declared_by}
use Rattle.alloy_types.proofs.NamedRelations.{no_only_link}
use Rattle.alloy_types.proofs.fields.both_unary.Goals as goal

pub returns-in_default-2 : goal.returns-in_default-2
returns-in_default-2 c = no_only_link (declared_by c.args.setting.now) (phrase_view c.args.first.now) c.args.links.now c.in_default.len_at_least
