use Rattle.std.proofs.Common.{◌≡◌, take, sym, subst}
use Rattle.std.specs.Prelude.{IfOk, OnErr}
use Rattle.clause_pool.specs.Limits.{IsLongestFit}
use Rattle.hub_state.specs.Journal.Noted.{Shared}
use Rattle.hub_state.specs.Journal.Journal.{IsPublished, IsLegal, pool_of}
use Rattle.hub_state.specs.HubView.{HubView, with_entry, GoesOn, moved}
use Rattle.hub_turns.proofs.Going.{leaves_added}
use Rattle.hub_turns.proofs.in_turn.share_held.Goals as goal

pub share-count-requires : goal.share-count-requires
share-count-requires c = subst (λ (h : HubView). GoesOn h.journal c.args.key c.args.at c.args.free.now) (sym c.get_mut.ensures.value) c.requires

pub returns-clause-leaves : goal.returns-clause-leaves
returns-clause-leaves c =
    let found = c.args.held.now.value in
    let left = c.share-count.new.self in
    let value = c.get_mut.ensures.value in
    let legal = subst (λ (h : HubView). IsLegal h.problems h.journal) c.get.ensures c.journal.ensures.legal in
    let u = c.requires.translation in
    leaves_added c.share-count.result c.args.by found left (λ n. Shared c.args.key (take n (moved found.journal c.args.key u c.args.at c.args.free.now))) (subst (λ (h : HubView). IfOk c.share-count.result (λ n. left ≡ with_entry h c.args.by (Shared c.args.key (take n (moved h.journal c.args.key u c.args.at c.args.free.now))))) value (c.share-count.ensures.entry u (subst (λ (h : HubView). IsPublished h.journal c.args.key u) (sym value) c.requires.published))) (subst (λ (h : HubView). OnErr c.share-count.result (left ≡ h)) value c.share-count.ensures.err) legal

pub returns-clause-entry : goal.returns-clause-entry
returns-clause-entry c =
    let found = c.args.held.now.value in
    let left = c.share-count.new.self in
    let value = c.get_mut.ensures.value in
    λ u there. subst (λ (h : HubView). IfOk c.share-count.result (λ n. left ≡ with_entry h c.args.by (Shared c.args.key (take n (moved h.journal c.args.key u c.args.at c.args.free.now))))) value (c.share-count.ensures.entry u (subst (λ (h : HubView). IsPublished h.journal c.args.key u) (sym value) there))

pub returns-clause-longest : goal.returns-clause-longest
returns-clause-longest c =
    let found = c.args.held.now.value in
    let left = c.share-count.new.self in
    let value = c.get_mut.ensures.value in
    λ u there. subst (λ (h : HubView). IfOk c.share-count.result (λ n. IsLongestFit (pool_of c.args.key h.journal) (moved h.journal c.args.key u c.args.at c.args.free.now) n)) value (c.share-count.ensures.longest u (subst (λ (h : HubView). IsPublished h.journal c.args.key u) (sym value) there))

pub returns-clause-err : goal.returns-clause-err
returns-clause-err c =
    let found = c.args.held.now.value in
    let left = c.share-count.new.self in
    let value = c.get_mut.ensures.value in
    subst (λ (h : HubView). OnErr c.share-count.result (left ≡ h)) value c.share-count.ensures.err
