use Rattle.std.proofs.Common.{◌≡◌, Some, sym, subst}
use Rattle.std.specs.Prelude.{IfOk, OnErr, slice_get}
use Rattle.hub_state.specs.Journal.Journal.{IsLegal}
use Rattle.hub_state.specs.HubView.{HubView, IsPublishing}
use Rattle.hub_turns.proofs.Going.{leaves_published}
use Rattle.hub_turns.proofs.in_turn.publish_held.Goals as goal

pub publish-kept-requires : goal.publish-kept-requires
publish-kept-requires c = subst (λ (h : HubView). slice_get h.problems c.args.key ≡ Some c.args.t.value.problem) (sym c.get_mut.ensures.value) c.requires

pub returns-clause-leaves : goal.returns-clause-leaves
returns-clause-leaves c =
    let found = c.args.held.now.value in
    let left = c.publish-kept.new.self in
    let value = c.get_mut.ensures.value in
    let legal = subst (λ (h : HubView). IsLegal h.problems h.journal) c.get.ensures c.journal.ensures.legal in
    leaves_published c.publish-kept.result c.args.by c.args.key c.args.t.value found left (λ kept. kept.value) (subst (λ (h : HubView). IfOk c.publish-kept.result (λ kept. IsPublishing h c.args.by c.args.key c.args.t.value left kept.value)) value c.publish-kept.ensures.entry) (subst (λ (h : HubView). OnErr c.publish-kept.result (left ≡ h)) value c.publish-kept.ensures.err) legal

pub returns-clause-entry : goal.returns-clause-entry
returns-clause-entry c =
    let found = c.args.held.now.value in
    let left = c.publish-kept.new.self in
    let value = c.get_mut.ensures.value in
    subst (λ (h : HubView). IfOk c.publish-kept.result (λ kept. IsPublishing h c.args.by c.args.key c.args.t.value left kept.value)) value c.publish-kept.ensures.entry

pub returns-clause-err : goal.returns-clause-err
returns-clause-err c =
    let found = c.args.held.now.value in
    let left = c.publish-kept.new.self in
    let value = c.get_mut.ensures.value in
    subst (λ (h : HubView). OnErr c.publish-kept.result (left ≡ h)) value c.publish-kept.ensures.err
