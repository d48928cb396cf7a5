use Rattle.std.proofs.Common.{◌≡◌, [], ◌++◌, map, drop}
use Rattle.named_model.specs.Phrase.{domains_of}
use Rattle.named_model.specs.View.{domain_view}
use Rattle.overload_resolution.specs.Names.Shared.{shared_in_domains}
use Rattle.overload_resolution.specs.Settling.Inside.{AreAlikeWhere}
use Rattle.overload_resolution.specs.Settling.Same.{Asks}
use Rattle.overload_resolution.specs.Scopes.Declaring.{declared_by}
use Rattle.alloy_types.specs.Calls.Groups.{groups_in, behind, group_view}
use Rattle.alloy_types.proofs.known_callees.groups.groups_in.Given as goal

abbrev pub invariant-loop-domain : goal.invariant-loop-domain
invariant-loop-domain l =
    let d = declared_by l.setting in
    let found = map group_view l.groups.items in
    record {
      value : groups_in d [] (domains_of (map domain_view l.domains)) ≡ found ++ groups_in d (behind d [] found) (domains_of (map domain_view (drop l.domain-index l.domains)));
      alike : AreAlikeWhere l.asked l.scope.locals (behind d [] found);
      asks : Asks (shared_in_domains (domains_of (map domain_view (drop l.domain-index l.domains)))) l.asked;
    }
