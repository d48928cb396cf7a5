use Rattle.std.proofs.Common.{List, [], map, ap, ◌∙◌}
use Rattle.std.specs.Option.{option_map}
use Rattle.named_model.specs.declared.phrase.Domain.{Domain}
use Rattle.named_model.specs.Phrase.{domains_of}
use Rattle.named_model.specs.View.{phrase_view, domain_view, callee_view}
use Rattle.model_types.specs.Parts.Kinds.{kind_view}
use Rattle.overload_resolution.specs.Names.Shared.{shared_in_domains}
use Rattle.overload_resolution.proofs.Settling.SharedDeclarations.{asks_right}
use Rattle.overload_resolution.specs.Scopes.Declaring.{declared_by}
use Rattle.overload_resolution.proofs.Scopes.Standing.{same_types}
use Rattle.alloy_types.specs.declared.known_callees.groups.Group.{Group}
use Rattle.alloy_types.specs.Calls.Groups.{GroupTree, groups_in, behind, arities_of, group_view}
use Rattle.alloy_types.specs.Calls.Meanings.{shared_in_meaning}
use Rattle.alloy_types.proofs.Calls.Callees.{parameters_by, kind_by, body_by, kind_alike, body_alike}
use Rattle.alloy_types.proofs.known_callees.callee.callee_known.Goals as goal

pub returns-clause-parameters : goal.returns-clause-parameters
returns-clause-parameters c =
    let d = declared_by c.args.setting.now in
    parameters_by d (callee_view c.args.callee.now) (map group_view c.in_ok-groups.groups.items)
    (c.in_ok-groups.ensures.value ∙ ap (λ (ds : List Domain). groups_in d [] (domains_of (map domain_view ds))) c.deref.ensures.value)
    c.in_ok-parameters.parameters.items (c.in_ok-parameters.ensures ∙ ap (λ (gs : List Group). arities_of (map group_view gs)) c.as_slice.ensures.value)

pub returns-clause-kind : goal.returns-clause-kind
returns-clause-kind c =
    let d = declared_by c.args.setting.now in
    let callee = callee_view c.args.callee.now in
    let gs : List GroupTree = map group_view c.in_ok-groups.groups.items in
    let asks = asks_right (shared_in_domains callee.parameters) (shared_in_meaning callee.meaning) c.is_asked-asked.result (λ e. c.is_asked-asked.ensures ∙ e) in
    kind_by d callee gs
    (c.in_ok-groups.ensures.value ∙ ap (λ (ds : List Domain). groups_in d [] (domains_of (map domain_view ds))) c.deref.ensures.value)
    (kind_view c.in_ok-kind.kind)
    (c.in_ok-kind.ensures.kind ∙ kind_alike c.is_asked-asked.result d (same_types c.args.setting.now c.requires) c.groups_in.new.scope.locals (behind d [] gs) c.in_ok-groups.ensures.locals callee.meaning asks)

pub returns-clause-body : goal.returns-clause-body
returns-clause-body c =
    let d = declared_by c.args.setting.now in
    let callee = callee_view c.args.callee.now in
    let gs : List GroupTree = map group_view c.in_ok-groups.groups.items in
    let asks = asks_right (shared_in_domains callee.parameters) (shared_in_meaning callee.meaning) c.is_asked-asked.result (λ e. c.is_asked-asked.ensures ∙ e) in
    body_by d callee gs
    (c.in_ok-groups.ensures.value ∙ ap (λ (ds : List Domain). groups_in d [] (domains_of (map domain_view ds))) c.deref.ensures.value)
    (option_map phrase_view c.in_ok-kind.body)
    (c.in_ok-kind.ensures.body ∙ body_alike c.is_asked-asked.result d (same_types c.args.setting.now c.requires) c.groups_in.new.scope.locals (behind d [] gs) c.in_ok-groups.ensures.locals callee.meaning asks)
