use Rattle.std.specs.Option.{option_map}
use Rattle.named_model.specs.View.{phrase_view}
use Rattle.std.proofs.lemmas.List.{map-set}
use Rattle.alloy_types.proofs.known_callees.whole.put.Goals as goal

pub returns-clause-bodies : goal.returns-clause-bodies
returns-clause-bodies c = map-set (option_map phrase_view) c.args.setting.now.types.bodies.items c.args.number c.args.body
