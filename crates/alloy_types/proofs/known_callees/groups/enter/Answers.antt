use Rattle.std.proofs.Common.{ap}
use Rattle.std.specs.Option.{option_map}
use Rattle.overload_resolution.specs.Scopes.Declaring.{declared_by}
use Rattle.alloy_types.specs.Calls.Groups.{group_view}
use Rattle.overload_resolution.specs.Parts.Given.{relation_view}
use Rattle.alloy_types.proofs.Calls.OutcomeLemmas.{unknown_entered}
use Rattle.alloy_types.proofs.known_callees.groups.enter.Goals as goal

pub returns-in_ok-enter_unknown-in-None : goal.returns-in_ok-enter_unknown-in-None
returns-in_ok-enter_unknown-in-None c =
    unknown_entered c.args.asked (declared_by c.args.setting.now) c.enter_unknown.new.scope.locals c.args.scope.now.locals (group_view c.args.group.now) (ap (option_map relation_view) c.in-None.is) c.in_ok-enter_unknown-in-None.ensures
