use Rattle.std.proofs.Common.{◌≡◌, ◌↔◌, sym, subst, length, ap, arith}
use Rattle.std.specs.Prelude.{IfSome, IsNone}
use Rattle.hub_state.specs.Journal.Journal.{IsPublished}
use Rattle.hub_state.specs.HubView.{HubView, HasTranslation}
use Rattle.hub_state.specs.Held.{journal_of}
use Rattle.hub_state.proofs.Sharing.{none_found, one_found}
use Rattle.hub_state.proofs.hub.Hub.find.Goals as goal

pub find-requires : goal.find-requires
find-requires c =
    let many = ap (λ (h : HubView). length h.problems) c.self.view_is in
    let keys = c.self.invariant.keys in
    omega arith

pub returns-clause-none : goal.returns-clause-none
returns-clause-none c =
    let journal = journal_of c.self.inside.cache c.self.inside.entries.items in
    subst (λ (h : HubView). IsNone c.in_ok-find.field-0 ↔ (¬ HasTranslation h.journal c.args.key)) c.self.view_is
    (none_found c.self.inside.problems.items c.self.inside.cache c.self.inside.pools.items journal c.self.invariant c.args.key c.in_ok-find.field-0 c.in_ok-find.ensures)

pub returns-clause-found : goal.returns-clause-found
returns-clause-found c =
    let journal = journal_of c.self.inside.cache c.self.inside.entries.items in
    subst (λ (h : HubView). IfSome c.in_ok-find.field-0 (λ t. IsPublished h.journal c.args.key t.value)) c.self.view_is
    (one_found c.self.inside.problems.items c.self.inside.cache c.self.inside.pools.items journal c.self.invariant c.args.key c.in_ok-find.field-0 c.in_ok-find.ensures)
