use Rattle.std.proofs.Common.{◌≡◌, ◌+◌, ◌∷◌, [], ℕ, List, length, All, length-append, refl, sym, ◌∙◌, ap, subst, arith}
use Rattle.std.proofs.lemmas.List.{nil_from_length}
use base.Growing.{prefix_refl, prefix_trans}
use Rattle.hub_lock.specs.declared.view.View.{View}
use Rattle.hub_lock.specs.Passes.{of_pass}
use Rattle.rel_formula.specs.Bounds.{Bounded}
use Rattle.hub_state.specs.Journal.Noted.{Noted}
use Rattle.explorer_run.specs.declared.seats.Seat.{Seat}
use Rattle.explorer_run.specs.Seats.{IsOut, counted_in}
use Rattle.explorer_run.proofs.Places.{all_before, all_last}
use Rattle.explorer_run.proofs.Gathering.{HasGathered, none_gone, one_more_gone, all_back, all_told}
use Rattle.explorer_run.proofs.Counting.{counted_more}
use Rattle.explorer_run.proofs.seats.gather.Goals as goal

abbrev V : Type 0
V = View Noted (List Bounded)

pub loop-seat-init : goal.loop-seat-init
loop-seat-init c =
    let root = c.args.root.now in
    let seats = c.args.seats.items in
    record {
      idle = c.requires.root.0;
      number = c.requires.root.1;
      base = refl;
      own = refl;
      made = refl;
      live = refl;
      seen = prefix_refl root.view.seen;
      out = c.requires.out;
      counted = omega arith;
      gathered = none_gone seats root.view c.with_capacity-transcripts.result c.with_capacity-transcripts.ensures.items;
    }

pub join-requires-clause-own : goal.join-requires-clause-own
join-requires-clause-own c =
    let Out : Seat → Type 0 = IsOut c.args.lock.now c.args.root.now.view.base in
    let this = all_last Out c.pop.new.self.items c.in-Some.seat (subst (All Out) c.in-Some.ensures.items c.loop-seat.invariant.out) in
    (c.loop-seat.invariant.idle.lock_is, this.idle.lock_is)

pub join-requires-clause-first : goal.join-requires-clause-first
join-requires-clause-first c =
    let Out : Seat → Type 0 = IsOut c.args.lock.now c.args.root.now.view.base in
    let this = all_last Out c.pop.new.self.items c.in-Some.seat (subst (All Out) c.in-Some.ensures.items c.loop-seat.invariant.out) in
    (c.loop-seat.invariant.number, this.number)

pub join-requires-clause-idle : goal.join-requires-clause-idle
join-requires-clause-idle c =
    let Out : Seat → Type 0 = IsOut c.args.lock.now c.args.root.now.view.base in
    let this = all_last Out c.pop.new.self.items c.in-Some.seat (subst (All Out) c.in-Some.ensures.items c.loop-seat.invariant.out) in
    (c.loop-seat.invariant.idle.idle, this.idle.idle)

pub loop-seat-preserved : goal.loop-seat-preserved
loop-seat-preserved c =
    let lock = c.args.lock.now in
    let all = c.args.seats.items in
    let before = c.loop-seat.invariant in
    let root = c.loop-seat.root in
    let new = c.join.new.p in
    let left = c.pop.new.self.items in
    let seat = c.in-Some.seat in
    let is = c.join.ensures.view in
    let joined = c.join.ensures.joined in
    let Out : Seat → Type 0 = IsOut lock c.args.root.now.view.base in
    let outs = subst (All Out) c.in-Some.ensures.items before.out in
    let this = all_last Out left seat outs in
    let mine = subst (λ (n : ℕ). of_pass (λ (x : Noted). x.by) n new.view.seen ≡ new.view.own) (sym before.number) c.join.ensures.mine in
    let long : length c.loop-seat.seats.items ≡ length left + 1 = ap (λ (ss : List Seat). length ss) c.in-Some.ensures.items ∙ length-append left (seat ∷ []) in
    let less = ap (λ (v : V). v.live) is in
    let some = joined.some in
    let live = before.live in
    record {
      idle = c.passes_stay_idle.ensures.joined lock root new seat.pass before.idle this.idle (before.base ∙ sym this.base_is) c.join.ensures.own is mine;
      number = ap (λ (v : V). v.number) is ∙ before.number;
      base = ap (λ (v : V). v.base) is ∙ before.base;
      own = ap (λ (v : V). v.own) is ∙ before.own;
      made = ap (λ (v : V). v.made) is ∙ before.made;
      live = omega (arith, less, some, live, long);
      seen = prefix_trans c.args.root.now.view.seen root.view.seen new.view.seen before.seen joined.mine;
      out = all_before Out left seat outs;
      counted = let b = before.counted in let seats = ap counted_in c.in-Some.ensures.items in let more = counted_more left seat in let added = c.add.ensures in omega (arith, b, seats, more, added);
      gathered = one_more_gone all root new left seat c.loop-seat.transcripts c.in_front-transcripts.result is joined c.in_front-transcripts.ensures (subst (λ (ss : List Seat). HasGathered all root.view ss c.loop-seat.transcripts) c.in-Some.ensures.items before.gathered);
    }

pub returns-clause-idle : goal.returns-clause-idle
returns-clause-idle c = c.loop-seat.invariant.idle

pub returns-clause-live : goal.returns-clause-live
returns-clause-live c =
    let none : c.loop-seat.seats.items ≡ [] = nil_from_length c.loop-seat.seats.items (sym c.loop-seat.seats.ok.0 ∙ c.in_default.ensures.cases.0) in
    let long = ap (λ (ss : List Seat). length ss) none in
    let live = c.loop-seat.invariant.live in
    omega (arith, long, live)

pub returns-clause-spent : goal.returns-clause-spent
returns-clause-spent c = let before = c.loop-seat.invariant.counted in omega (arith, before)

pub returns-clause-back : goal.returns-clause-back
returns-clause-back c =
    let none : c.loop-seat.seats.items ≡ [] = nil_from_length c.loop-seat.seats.items (sym c.loop-seat.seats.ok.0 ∙ c.in_default.ensures.cases.0) in
    let v = c.loop-seat.root.view in
    all_back c.args.seats.items v c.loop-seat.transcripts (subst (λ (ss : List Seat). HasGathered c.args.seats.items v ss c.loop-seat.transcripts) none c.loop-seat.invariant.gathered)

pub returns-clause-transcripts : goal.returns-clause-transcripts
returns-clause-transcripts c =
    let none : c.loop-seat.seats.items ≡ [] = nil_from_length c.loop-seat.seats.items (sym c.loop-seat.seats.ok.0 ∙ c.in_default.ensures.cases.0) in
    let v = c.loop-seat.root.view in
    all_told c.args.seats.items v c.loop-seat.transcripts (subst (λ (ss : List Seat). HasGathered c.args.seats.items v ss c.loop-seat.transcripts) none c.loop-seat.invariant.gathered)
