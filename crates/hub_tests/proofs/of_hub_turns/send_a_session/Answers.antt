use Rattle.std.proofs.Common.{◌≡◌, ℕ, List, sym, ◌∙◌, ap, subst}
use Rattle.hub_lock.specs.declared.view.View.{View}
use Rattle.hub_lock.specs.Passes.{of_pass}
use Rattle.rel_formula.specs.Bounds.{Bounded}
use Rattle.hub_state.specs.Journal.Noted.{Noted}
use Rattle.hub_tests.proofs.Turns.{base_of_split}
use Rattle.hub_tests.proofs.of_hub_turns.send_a_session.Goals as goal

abbrev V : Type 0
V = View Noted (List Bounded)

pub open_and_set-opened-requires-clause-idle : goal.open_and_set-opened-requires-clause-idle
open_and_set-opened-requires-clause-idle g c =
    (c.passes_stay_idle.ensures.split c.args.lock.now c.args.root.now c.split-pass.new.p c.split-pass.result c.requires.idle c.split-pass.ensures.own c.split-pass.ensures.first c.split-pass.ensures.other c.split-pass.ensures.none).1

pub open_and_set-opened-requires-clause-none : goal.open_and_set-opened-requires-clause-none
open_and_set-opened-requires-clause-none g c = ap (λ (v : V). v.own) c.split-pass.ensures.other

pub open_and_set-opened-requires-clause-base : goal.open_and_set-opened-requires-clause-base
open_and_set-opened-requires-clause-base g c = ap (λ (v : V). v.base) c.split-pass.ensures.other ∙ c.requires.base

pub returns : goal.returns
returns g c =
    let lock = c.args.lock.now in
    let old = c.args.root.now in
    let root = c.split-pass.new.p in
    let off = c.split-pass.result in
    let now = c.open_and_set-opened.new.pass in
    let went = c.open_and_set-opened.ensures.goes in
    let idle = (c.passes_stay_idle.ensures.split lock old root off c.requires.idle c.split-pass.ensures.own c.split-pass.ensures.first c.split-pass.ensures.other c.split-pass.ensures.none).0 in
    let zero : root.view.number ≡ 0 = ap (λ (v : V). v.number) c.split-pass.ensures.first ∙ c.requires.first.0 in
    let mine = subst (λ (n : ℕ). of_pass (λ (x : Noted). x.by) n c.join.new.p.view.seen ≡ c.join.new.p.view.own) (sym zero) c.join.ensures.mine in
    record { idle = c.passes_stay_idle.ensures.joined lock root c.join.new.p now idle went.idle (base_of_split lock old root off now c.split-pass.ensures.first c.split-pass.ensures.other went) c.join.ensures.own c.join.ensures.view mine }
