use Rattle.std.proofs.Common.{◌≡◌, ℕ, List, sym, ◌∙◌, ap, subst}
use Rattle.hub_lock.specs.declared.view.View.{View}
use Rattle.hub_lock.specs.Passes.{of_pass}
use Rattle.rel_formula.specs.Bounds.{Bounded}
use Rattle.hub_state.specs.Journal.Noted.{Noted}
use Rattle.hub_state.specs.Journal.Journal.{IsPublished}
use Rattle.hub_tests.proofs.Turns.{base_of_split}
use Rattle.hub_tests.proofs.of_session_turns.serve_in_a_pass.Goals as goal

abbrev V : Type 0
V = View Noted (List Bounded)

pub serve-replies-requires-clause-idle : goal.serve-replies-requires-clause-idle
serve-replies-requires-clause-idle g c =
    (c.passes_stay_idle.ensures.split c.args.lock.now c.args.root.now c.split-pass.new.p c.split-pass.result c.requires.idle c.split-pass.ensures.own c.split-pass.ensures.first c.split-pass.ensures.other c.split-pass.ensures.none).1

pub serve-replies-requires-clause-none : goal.serve-replies-requires-clause-none
serve-replies-requires-clause-none g c = ap (λ (v : V). v.own) c.split-pass.ensures.other

pub serve-replies-requires-clause-published : goal.serve-replies-requires-clause-published
serve-replies-requires-clause-published g c = subst (λ (v : V). IsPublished v.seen 0 c.args.t.now) (sym c.split-pass.ensures.other) c.requires.published

pub returns : goal.returns
returns g c =
    let lock = c.args.lock.now in
    let old = c.args.root.now in
    let root = c.split-pass.new.p in
    let off = c.split-pass.result in
    let now = c.serve-replies.new.pass in
    let went = c.serve-replies.ensures.goes in
    let idle = (c.passes_stay_idle.ensures.split lock old root off c.requires.idle c.split-pass.ensures.own c.split-pass.ensures.first c.split-pass.ensures.other c.split-pass.ensures.none).0 in
    let zero : root.view.number ≡ 0 = ap (λ (v : V). v.number) c.split-pass.ensures.first ∙ c.requires.first.0 in
    let mine = subst (λ (n : ℕ). of_pass (λ (x : Noted). x.by) n c.join.new.p.view.seen ≡ c.join.new.p.view.own) (sym zero) c.join.ensures.mine in
    record { idle = c.passes_stay_idle.ensures.joined lock root c.join.new.p now idle went.idle (base_of_split lock old root off now c.split-pass.ensures.first c.split-pass.ensures.other went) c.join.ensures.own c.join.ensures.view mine }
