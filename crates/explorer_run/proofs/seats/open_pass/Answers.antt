use Rattle.std.proofs.Common.{◌≡◌, ◌∙◌, ap, arith, ℕ, List, sym, subst}
use Rattle.hub_lock.specs.declared.view.View.{View}
use Rattle.hub_lock.specs.Passes.{of_pass}
use Rattle.rel_formula.specs.Bounds.{Bounded}
use Rattle.hub_state.specs.Journal.Noted.{Noted}
use Rattle.explorer_run.specs.Served.{values_of}
use Rattle.explorer_run.proofs.Rooted.{root_splits, root_joins, stays_then}
use Rattle.explorer_run.proofs.Seating.{some_translation, has_translation_still, opened_now, base_of_split}
use Rattle.explorer_run.proofs.seats.open_pass.Goals as goal

abbrev V : Type 0
V = View Noted (List Bounded)

pub open_session-requires-clause-idle : goal.open_session-requires-clause-idle
open_session-requires-clause-idle g c =
    (c.passes_stay_idle.ensures.split c.args.lock.now c.args.root.now c.split-pass.new.p c.split-pass.result c.requires.root.idle c.split-pass.ensures.own c.split-pass.ensures.first c.split-pass.ensures.other c.split-pass.ensures.none).1

pub open_session-requires-clause-none : goal.open_session-requires-clause-none
open_session-requires-clause-none g c = ap (λ (v : V). v.own) c.split-pass.ensures.other

pub open_session-requires-clause-published : goal.open_session-requires-clause-published
open_session-requires-clause-published g c =
    let t = some_translation c.args.translations.now c.args.key c.requires.key in
    (t.0, has_translation_still (values_of c.args.translations.now) c.args.key c.args.root.now c.split-pass.result t.0 t.1 c.requires.root.published c.split-pass.ensures.other)

pub returns-in-Ok-clause-root : goal.returns-in-Ok-clause-root
returns-in-Ok-clause-root g c =
    let idle = (c.passes_stay_idle.ensures.split c.args.lock.now c.args.root.now c.split-pass.new.p c.split-pass.result c.requires.root.idle c.split-pass.ensures.own c.split-pass.ensures.first c.split-pass.ensures.other c.split-pass.ensures.none).0 in
    root_splits c.args.lock.now (values_of c.args.translations.now) c.args.root.now c.split-pass.new.p c.requires.root idle c.split-pass.ensures.first

pub returns-in-Ok-clause-made : goal.returns-in-Ok-clause-made
returns-in-Ok-clause-made g c = ap (λ (v : V). v.made) c.split-pass.ensures.first

pub returns-in-Ok-clause-live : goal.returns-in-Ok-clause-live
returns-in-Ok-clause-live g c = ap (λ (v : V). v.live) c.split-pass.ensures.first

pub returns-in-Ok-clause-opened : goal.returns-in-Ok-clause-opened
returns-in-Ok-clause-opened g c =
    let ts = values_of c.args.translations.now in
    let old = c.args.root.now in
    let off = c.split-pass.result in
    let other = c.split-pass.ensures.other in
    let t = some_translation c.args.translations.now c.args.key c.requires.key in
    opened_now c.args.lock.now ts c.args.key c.args.budget old off c.open_session.new.pass c.in-Ok.session t.0 other c.in-Ok.ensures.goes t.1
    (c.in-Ok.ensures.seated t.0 (has_translation_still ts c.args.key old off t.0 t.1 c.requires.root.published other)) c.in-Ok.ensures.opened

pub returns-in-Err-clause-root : goal.returns-in-Err-clause-root
returns-in-Err-clause-root g c =
    let lock = c.args.lock.now in
    let ts = values_of c.args.translations.now in
    let old = c.args.root.now in
    let root = c.split-pass.new.p in
    let off = c.split-pass.result in
    let now = c.open_session.new.pass in
    let new = c.join.new.p in
    let went = c.open_session.ensures.goes in
    let idle = (c.passes_stay_idle.ensures.split lock old root off c.requires.root.idle c.split-pass.ensures.own c.split-pass.ensures.first c.split-pass.ensures.other c.split-pass.ensures.none).0 in
    let first = root_splits lock ts old root c.requires.root idle c.split-pass.ensures.first in
    let base : root.view.base ≡ now.view.base = first.base ∙ sym (base_of_split lock old off now c.split-pass.ensures.other went) in
    let mine = subst (λ (n : ℕ). of_pass (λ (x : Noted). x.by) n new.view.seen ≡ new.view.own) (sym first.root.number) c.join.ensures.mine in
    let again = c.passes_stay_idle.ensures.joined lock root new now idle went.idle base c.join.ensures.own c.join.ensures.view mine in
    stays_then lock ts old root new first (root_joins lock ts root new now.view first.root again c.join.ensures.view c.join.ensures.joined.mine)

pub returns-in-Err-clause-err : goal.returns-in-Err-clause-err
returns-in-Err-clause-err g c =
    let split = ap (λ (v : V). v.live) c.split-pass.ensures.first in
    let joined = ap (λ (v : V). v.live) c.join.ensures.view in
    omega arith
