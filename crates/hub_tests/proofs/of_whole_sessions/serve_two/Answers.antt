use Rattle.std.proofs.Common.{◌≡◌, ◌+◌, ℕ, List, sym, ◌∙◌, ap, subst, arith}
use Rattle.hub_lock.specs.declared.view.View.{View}
use Rattle.hub_lock.specs.Passes.{of_pass}
use Rattle.rel_formula.specs.Bounds.{Bounded}
use Rattle.hub_state.specs.Journal.Noted.{Noted}
use Rattle.hub_state.specs.Journal.Journal.{IsPublished}
use Rattle.hub_tests.proofs.Turns.{base_of_split}
use Rattle.hub_tests.proofs.of_whole_sessions.serve_two.Goals as goal

abbrev V : Type 0
V = View Noted (List Bounded)

pub split-two-requires-clause-own : goal.split-two-requires-clause-own
split-two-requires-clause-own g c = c.split-one.ensures.own.0 ∙ c.requires.idle.lock_is

pub split-two-requires-clause-first : goal.split-two-requires-clause-first
split-two-requires-clause-first g c = ap (λ (v : V). v.number) c.split-one.ensures.first ∙ c.requires.first.0

pub split-two-requires-clause-idle : goal.split-two-requires-clause-idle
split-two-requires-clause-idle g c = ap (λ (v : V). v.turn) c.split-one.ensures.first ∙ c.requires.idle.idle

pub split-two-requires-clause-room : goal.split-two-requires-clause-room
split-two-requires-clause-room g c =
    let made : c.split-one.new.p.view.made ≡ c.args.root.now.view.made + 1 = ap (λ (v : V). v.made) c.split-one.ensures.first in
    let none = c.requires.first.1 in
    omega arith

pub serve_four-first-requires-clause-idle : goal.serve_four-first-requires-clause-idle
serve_four-first-requires-clause-idle g c =
    (c.passes_stay_idle.ensures.split c.args.lock.now c.args.root.now c.split-one.new.p c.split-one.result c.requires.idle c.split-one.ensures.own c.split-one.ensures.first c.split-one.ensures.other c.split-one.ensures.none).1

pub serve_four-first-requires-clause-none : goal.serve_four-first-requires-clause-none
serve_four-first-requires-clause-none g c = ap (λ (v : V). v.own) c.split-one.ensures.other

pub serve_four-first-requires-clause-published : goal.serve_four-first-requires-clause-published
serve_four-first-requires-clause-published g c = subst (λ (v : V). IsPublished v.seen 0 c.args.t.now) (sym c.split-one.ensures.other) c.requires.published

pub serve_four-second-requires-clause-idle : goal.serve_four-second-requires-clause-idle
serve_four-second-requires-clause-idle g c =
    let lock = c.args.lock.now in
    let root = c.split-one.new.p in
    let idle = (c.passes_stay_idle.ensures.split lock c.args.root.now root c.split-one.result c.requires.idle c.split-one.ensures.own c.split-one.ensures.first c.split-one.ensures.other c.split-one.ensures.none).0 in
    (c.passes_stay_idle.ensures.split lock root c.split-two.new.p c.split-two.result idle c.split-two.ensures.own c.split-two.ensures.first c.split-two.ensures.other c.split-two.ensures.none).1

pub serve_four-second-requires-clause-none : goal.serve_four-second-requires-clause-none
serve_four-second-requires-clause-none g c = ap (λ (v : V). v.own) c.split-two.ensures.other

pub serve_four-second-requires-clause-published : goal.serve_four-second-requires-clause-published
serve_four-second-requires-clause-published g c =
    subst (λ (v : V). IsPublished v.seen 0 c.args.t.now) (sym (c.split-two.ensures.other)) (subst (λ (v : V). IsPublished v.seen 0 c.args.t.now) (sym c.split-one.ensures.first) c.requires.published)

pub returns : goal.returns
returns g c =
    let lock = c.args.lock.now in
    let old = c.args.root.now in
    let begun = c.split-one.new.p in
    let root = c.split-two.new.p in
    let one = c.split-one.result in
    let two = c.split-two.result in
    let one_now = c.serve_four-first.new.pass in
    let two_now = c.serve_four-second.new.pass in
    let one_went = c.serve_four-first.ensures.goes in
    let two_went = c.serve_four-second.ensures.goes in
    let idle_begun = (c.passes_stay_idle.ensures.split lock old begun one c.requires.idle c.split-one.ensures.own c.split-one.ensures.first c.split-one.ensures.other c.split-one.ensures.none).0 in
    let idle_root = (c.passes_stay_idle.ensures.split lock begun root two idle_begun c.split-two.ensures.own c.split-two.ensures.first c.split-two.ensures.other c.split-two.ensures.none).0 in
    let zero : root.view.number ≡ 0 = ap (λ (v : V). v.number) c.split-two.ensures.first ∙ ap (λ (v : V). v.number) c.split-one.ensures.first ∙ c.requires.first.0 in
    let zero_still : c.join.new.p.view.number ≡ 0 = ap (λ (v : V). v.number) c.join.ensures.view ∙ zero in
    let mine : of_pass (λ (x : Noted). x.by) root.view.number c.join.new.p.view.seen ≡ c.join.new.p.view.own =
    subst (λ (n : ℕ). of_pass (λ (x : Noted). x.by) n c.join.new.p.view.seen ≡ c.join.new.p.view.own) (sym zero) c.join.ensures.mine in
    let mine_still : of_pass (λ (x : Noted). x.by) c.join.new.p.view.number c.join-2.new.p.view.seen ≡ c.join-2.new.p.view.own =
    subst (λ (n : ℕ). of_pass (λ (x : Noted). x.by) n c.join-2.new.p.view.seen ≡ c.join-2.new.p.view.own) (sym zero_still) c.join-2.ensures.mine in
    let one_base : root.view.base ≡ one_now.view.base = ap (λ (v : V). v.base) c.split-two.ensures.first ∙ base_of_split lock old begun one one_now c.split-one.ensures.first c.split-one.ensures.other one_went in
    let two_base : c.join.new.p.view.base ≡ two_now.view.base = ap (λ (v : V). v.base) c.join.ensures.view ∙ base_of_split lock begun root two two_now c.split-two.ensures.first c.split-two.ensures.other two_went in
    let joined = c.passes_stay_idle.ensures.joined lock root c.join.new.p one_now idle_root one_went.idle one_base c.join.ensures.own c.join.ensures.view mine in
    record { idle = c.passes_stay_idle.ensures.joined lock c.join.new.p c.join-2.new.p two_now joined two_went.idle two_base c.join-2.ensures.own c.join-2.ensures.view mine_still }
