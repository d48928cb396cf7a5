use Rattle.std.proofs.Common.{List, subst}
use Rattle.model_types.specs.Typing.{Local}
use Rattle.overload_resolution.specs.Settling.Inside.{AreAlikeWhere}
use Rattle.overload_resolution.specs.Scopes.Declaring.{declared_by}
use Rattle.alloy_types.specs.declared.known_callees.groups.Group.{Group}
use Rattle.alloy_types.specs.Calls.Groups.{entered, group_view}
use Rattle.alloy_types.proofs.known_callees.groups.next_group.Goals as goal

pub returns-clause-locals : goal.returns-clause-locals
returns-clause-locals c =
    let group : Group = record { count = c.args.domain.now.count; relation = c.in_ok-relation.relation } in
    subst (λ (ls : List Local). AreAlikeWhere c.args.asked c.enter.new.scope.locals (entered (declared_by c.args.setting.now) ls (group_view group))) c.in_ok-relation.ensures.locals c.in_ok-enter.ensures
