use Rattle.std.proofs.Common.{◌≡◌, ◌+◌, ℕ, List, length, refl, sym, ◌∙◌, ap, subst, arith}
use Rattle.std.specs.Prelude.{slice_get, Some, None}
use Rattle.std.proofs.lemmas.Option.{slice_get_read}
use Rattle.explorer_run.specs.declared.seats.Seat.{Seat}
use Rattle.explorer_run.specs.Served.{IsServableScript, values_of}
use Rattle.explorer_run.specs.Seats.{IsReady, IsPlaced, EachSeat}
use Rattle.explorer_run.proofs.Places.{each_none, each_more}
use Rattle.explorer_run.proofs.Rooted.{stays_root, stays_then}
use Rattle.explorer_run.proofs.Seating.{ready_at}
use Rattle.explorer_run.proofs.seats.open_all.Goals as goal

pub loop-script-init : goal.loop-script-init
loop-script-init g c =
    let ts = values_of c.args.translations.now in
    let root = c.args.root.now in
    let none = ap (λ (ss : List Seat). length ss) c.requires.none in
    record {
      root = stays_root c.args.lock.now ts root c.requires.root;
      made = omega arith;
      live = omega arith;
      count = none;
      room = c.requires.room;
      ready = each_none (λ k (seat : Seat). IsReady c.args.lock.now ts c.args.scripts.now k seat × IsPlaced root.view.base (root.view.made + 1) k seat) c.args.seats.now.items c.requires.none;
    }

pub open_pass-requires-clause-root : goal.open_pass-requires-clause-root
open_pass-requires-clause-root g c = c.loop-script.invariant.root.root

pub open_pass-requires-clause-key : goal.open_pass-requires-clause-key
open_pass-requires-clause-key g c = (subst (IsServableScript (length c.args.translations.now)) (sym c.script-item.is) (c.requires.scripts c.loop-script.script-index c.script-item.result c.loop-script-test.true)).key

pub open_pass-requires-clause-budget : goal.open_pass-requires-clause-budget
open_pass-requires-clause-budget g c = (subst (IsServableScript (length c.args.translations.now)) (sym c.script-item.is) (c.requires.scripts c.loop-script.script-index c.script-item.result c.loop-script-test.true)).budget

pub open_pass-requires-clause-room : goal.open_pass-requires-clause-room
open_pass-requires-clause-room g c =
    let made = c.loop-script.invariant.made in
    let within = c.loop-script-test.true in
    let few = c.requires.few in
    omega arith

pub loop-script-preserved : goal.loop-script-preserved
loop-script-preserved g c =
    let lock = c.args.lock.now in
    let ts = values_of c.args.translations.now in
    let scripts = c.args.scripts.now in
    let old = c.args.root.now in
    let root = c.loop-script.root in
    let new = c.open_pass.new.root in
    let before = c.loop-script.invariant in
    let i = c.loop-script.script-index in
    let item = c.script-item.result in
    let opened = c.in_ok-pass.ensures.opened in
    let made = c.in_ok-pass.ensures.made in
    let live = c.in_ok-pass.ensures.live in
    let at : slice_get scripts i ≡ Some item = slice_get_read scripts (length scripts) i item refl c.loop-script-test.true c.script-item.is in
    let P : ℕ → Seat → Type 0 = λ k seat. IsReady lock ts scripts k seat × IsPlaced old.view.base (old.view.made + 1) k seat in
    let seat : Seat = record { pass = c.in_ok-pass.pass; session = c.in_ok-pass.session; transcript = None; count = c.new-count.result } in
    let number : seat.pass.view.number ≡ old.view.made + 1 + i = let n = opened.number in let m = before.made in omega arith in
    let here : P i seat = (ready_at lock ts scripts i item root seat at opened refl c.new-count.ensures, (opened.base ∙ before.root.base, number)) in
    record {
      root = stays_then lock ts old root new before.root c.in_ok-pass.ensures.root;
      made = let m = before.made in omega arith;
      live = let m = before.live in omega arith;
      count = let n = before.count in let l = c.push_reserved.ensures.len in omega arith;
      room = let n = before.room in let l = c.push_reserved.ensures.capacity in omega arith;
      ready = subst (EachSeat P) (sym c.push_reserved.ensures.items) (each_more P c.loop-script.seats.items seat before.ready (subst (λ (k : ℕ). P k seat) (sym before.count) here));
    }
