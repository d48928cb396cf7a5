use Rattle.std.proofs.Common.{◌≡◌, length, sym, subst}
use Rattle.std.specs.Prelude.{OnOk, OnErr}
use mathlib.Core.List.{IsPrefix}
use Rattle.hub_state.specs.Journal.Noted.{Imported}
use Rattle.hub_state.specs.Journal.Journal.{IsLegal, pool_of}
use Rattle.hub_state.specs.HubView.{HubView, with_entry, HasTranslation}
use Rattle.hub_turns.proofs.Going.{leaves_added}
use Rattle.hub_turns.proofs.in_turn.import_held.Goals as goal

pub import_behind-imported-requires-clause-published : goal.import_behind-imported-requires-clause-published
import_behind-imported-requires-clause-published c = subst (λ (h : HubView). HasTranslation h.journal c.args.key) (sym c.get_mut.ensures.value) c.requires.published

pub import_behind-imported-requires-clause-begins : goal.import_behind-imported-requires-clause-begins
import_behind-imported-requires-clause-begins c = subst (λ (h : HubView). IsPrefix c.args.have.now (pool_of c.args.key h.journal)) (sym c.get_mut.ensures.value) c.requires.begins

pub returns-clause-leaves : goal.returns-clause-leaves
returns-clause-leaves c =
    let found = c.args.held.now.value in
    let left = c.import_behind-imported.new.self in
    let value = c.get_mut.ensures.value in
    let legal = subst (λ (h : HubView). IsLegal h.problems h.journal) c.get.ensures c.journal.ensures.legal in
    leaves_added c.import_behind-imported.result c.args.by found left (λ _. Imported c.args.key (length (pool_of c.args.key found.journal))) (subst (λ (h : HubView). OnOk c.import_behind-imported.result (left ≡ with_entry h c.args.by (Imported c.args.key (length (pool_of c.args.key h.journal))))) value c.import_behind-imported.ensures.entry) (subst (λ (h : HubView). OnErr c.import_behind-imported.result (left ≡ h)) value c.import_behind-imported.ensures.err) legal

pub returns-clause-pool : goal.returns-clause-pool
returns-clause-pool c = subst (λ (h : HubView). OnOk c.import_behind-imported.result (c.import_behind-imported.new.have ≡ pool_of c.args.key h.journal)) c.get_mut.ensures.value c.import_behind-imported.ensures.pool

pub returns-clause-begins : goal.returns-clause-begins
returns-clause-begins c = subst (λ (h : HubView). IsPrefix c.import_behind-imported.new.have (pool_of c.args.key h.journal)) c.get_mut.ensures.value c.import_behind-imported.ensures.begins

pub returns-clause-entry : goal.returns-clause-entry
returns-clause-entry c =
    let found = c.args.held.now.value in
    let left = c.import_behind-imported.new.self in
    let value = c.get_mut.ensures.value in
    subst (λ (h : HubView). OnOk c.import_behind-imported.result (left ≡ with_entry h c.args.by (Imported c.args.key (length (pool_of c.args.key h.journal))))) value c.import_behind-imported.ensures.entry

pub returns-clause-err : goal.returns-clause-err
returns-clause-err c =
    let found = c.args.held.now.value in
    let left = c.import_behind-imported.new.self in
    let value = c.get_mut.ensures.value in
    subst (λ (h : HubView). OnErr c.import_behind-imported.result (left ≡ h)) value c.import_behind-imported.ensures.err
