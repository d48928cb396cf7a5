use Rattle.std.proofs.Common.{◌≡◌, sym, subst}
use Rattle.std.specs.Prelude.{OnOk, OnErr}
use Rattle.hub_state.specs.Journal.Noted.{Recorded}
use Rattle.hub_state.specs.Journal.Journal.{IsLegal, MayFollow}
use Rattle.hub_state.specs.HubView.{HubView, with_entry}
use Rattle.hub_turns.proofs.Going.{leaves_added}
use Rattle.hub_turns.proofs.in_turn.record_held.Goals as goal

pub record-recorded-requires : goal.record-recorded-requires
record-recorded-requires c = subst (λ (h : HubView). MayFollow h.problems h.journal c.args.by (Recorded c.args.step c.args.reply)) (sym c.get_mut.ensures.value) c.requires

pub returns-clause-leaves : goal.returns-clause-leaves
returns-clause-leaves c =
    let found = c.args.held.now.value in
    let left = c.record-recorded.new.self in
    let value = c.get_mut.ensures.value in
    let legal = subst (λ (h : HubView). IsLegal h.problems h.journal) c.get.ensures c.journal.ensures.legal in
    leaves_added c.record-recorded.result c.args.by found left (λ _. Recorded c.args.step c.args.reply) (subst (λ (h : HubView). OnOk c.record-recorded.result (left ≡ with_entry h c.args.by (Recorded c.args.step c.args.reply))) value c.record-recorded.ensures.ok) (subst (λ (h : HubView). OnErr c.record-recorded.result (left ≡ h)) value c.record-recorded.ensures.err) legal

pub returns-clause-ok : goal.returns-clause-ok
returns-clause-ok c =
    let found = c.args.held.now.value in
    let left = c.record-recorded.new.self in
    let value = c.get_mut.ensures.value in
    subst (λ (h : HubView). OnOk c.record-recorded.result (left ≡ with_entry h c.args.by (Recorded c.args.step c.args.reply))) value c.record-recorded.ensures.ok

pub returns-clause-err : goal.returns-clause-err
returns-clause-err c =
    let found = c.args.held.now.value in
    let left = c.record-recorded.new.self in
    let value = c.get_mut.ensures.value in
    subst (λ (h : HubView). OnErr c.record-recorded.result (left ≡ h)) value c.record-recorded.ensures.err
