use Rattle.std.proofs.Common.{◌≡◌, List, [], ◌∷◌, ◌++◌, map, drop, ap, sym, subst, ◌∙◌, ◌+◌}
use Rattle.std.proofs.lemmas.List.{map-append}
use Rattle.named_model.specs.Phrase.{domains_of}
use Rattle.named_model.specs.View.{domain_view}
use Rattle.overload_resolution.specs.Settling.Inside.{AreAlikeWhere}
use Rattle.overload_resolution.specs.Scopes.Declaring.{declared_by}
use Rattle.overload_resolution.proofs.Scopes.Standing.{same_types}
use Rattle.alloy_types.specs.Calls.Groups.{GroupTree, groups_in, behind, group_view}
use Rattle.alloy_types.proofs.Calls.Grouped.{groups_more, alike_more, asks_next, group_alike, entered_behind}
use Rattle.alloy_types.proofs.known_callees.groups.groups_in.Goals as goal

pub loop-domain-preserved : goal.loop-domain-preserved
loop-domain-preserved c =
    let d = declared_by c.args.setting.now in
    let same = same_types c.args.setting.now c.requires.tables in
    let asked = c.args.asked in
    let xs = c.args.domains.now in
    let i = c.loop-domain.domain-index in
    let x = c.domain-item.result in
    let now = c.loop-domain.scope.locals in
    let new = c.next_group.new.scope.locals in
    let found : List GroupTree = map group_view c.loop-domain.groups.items in
    let g : GroupTree = group_view c.in_ok-group.group in
    let whole : List GroupTree = groups_in d [] (domains_of (map domain_view xs)) in
    let more = ap (map group_view) c.in_ok-push.ensures.items ∙ map-append group_view c.loop-domain.groups.items (c.in_ok-group.group ∷ []) in
    let asks = asks_next asked xs i x c.loop-domain-test.true c.domain-item.is c.loop-domain.invariant.asks in
    let is = c.in_ok-group.ensures.value ∙ group_alike asked d same now (behind d [] found) (domain_view x) c.loop-domain.invariant.alike asks.0 in
    let inside = entered_behind asked d same new now found g c.in_ok-group.ensures.locals c.loop-domain.invariant.alike in
    record {
      value = subst (λ (gs : List GroupTree). whole ≡ gs ++ groups_in d (behind d [] gs) (domains_of (map domain_view (drop (i + 1) xs)))) (sym more) (groups_more d whole xs i x found g c.loop-domain-test.true c.domain-item.is is c.loop-domain.invariant.value);
      alike = subst (λ (gs : List GroupTree). AreAlikeWhere asked new (behind d [] gs)) (sym more) (alike_more d asked new found g inside);
      asks = asks.1;
    }
