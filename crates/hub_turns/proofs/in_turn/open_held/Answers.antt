use Rattle.std.proofs.Common.{◌≡◌, sym, subst}
use Rattle.std.specs.Prelude.{OnOk, OnErr}
use Rattle.hub_state.specs.Journal.Noted.{Opened}
use Rattle.hub_state.specs.Journal.Journal.{IsLegal, MayFollow}
use Rattle.hub_state.specs.HubView.{HubView, with_entry}
use Rattle.hub_turns.proofs.Going.{leaves_added}
use Rattle.hub_turns.proofs.in_turn.open_held.Goals as goal

pub record-opened-requires : goal.record-opened-requires
record-opened-requires c = subst (λ (h : HubView). MayFollow h.problems h.journal c.args.by (Opened c.args.key c.args.budget)) (sym c.get_mut.ensures.value) c.requires

pub returns-clause-leaves : goal.returns-clause-leaves
returns-clause-leaves c =
    let found = c.args.held.now.value in
    let left = c.record-opened.new.self in
    let value = c.get_mut.ensures.value in
    let legal = subst (λ (h : HubView). IsLegal h.problems h.journal) c.get.ensures c.journal.ensures.legal in
    leaves_added c.record-opened.result c.args.by found left (λ _. Opened c.args.key c.args.budget) (subst (λ (h : HubView). OnOk c.record-opened.result (left ≡ with_entry h c.args.by (Opened c.args.key c.args.budget))) value c.record-opened.ensures.ok) (subst (λ (h : HubView). OnErr c.record-opened.result (left ≡ h)) value c.record-opened.ensures.err) legal

pub returns-clause-ok : goal.returns-clause-ok
returns-clause-ok c =
    let found = c.args.held.now.value in
    let left = c.record-opened.new.self in
    let value = c.get_mut.ensures.value in
    subst (λ (h : HubView). OnOk c.record-opened.result (left ≡ with_entry h c.args.by (Opened c.args.key c.args.budget))) value c.record-opened.ensures.ok

pub returns-clause-err : goal.returns-clause-err
returns-clause-err c =
    let found = c.args.held.now.value in
    let left = c.record-opened.new.self in
    let value = c.get_mut.ensures.value in
    subst (λ (h : HubView). OnErr c.record-opened.result (left ≡ h)) value c.record-opened.ensures.err
