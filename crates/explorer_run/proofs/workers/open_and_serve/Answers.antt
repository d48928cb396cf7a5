use Rattle.std.proofs.Common.{◌+◌, ◌≤◌, List, All, length, sym, ◌∙◌, ap, subst, arith}
use Rattle.explorer_run.specs.declared.seats.Seat.{Seat}
use Rattle.explorer_run.specs.Served.{values_of, allowed_in}
use Rattle.explorer_run.specs.Seats.{IsPlaced, IsEnded, IsOut, EachSeat, counted_in}
use Rattle.explorer_run.proofs.Places.{written_whole}
use Rattle.explorer_run.proofs.Seating.{all_ended_are_out}
use Rattle.explorer_run.proofs.Counting.{none_counted, counted_within}
use Rattle.explorer_run.proofs.workers.open_and_serve.Goals as goal

pub returns-clause-out : goal.returns-clause-out
returns-clause-out g c =
    let base = c.args.root.now.view.base in
    let first = c.args.root.now.view.made + 1 in
    let ts = values_of c.args.translations.now in
    let old = c.open_all.new.seats.items in
    let new = c.serve_seats.new.seats in
    let lent = c.as_mut_slice.ensures.value in
    let placed = subst (EachSeat (IsPlaced base first)) (sym lent) (λ k d lt. (c.in_ok-open_all.ensures.ready k d lt).1) in
    let ended = c.serve_seats.ensures.ended base first placed in
    let whole = written_whole c.open_all.new.seats.len new old c.open_all.new.seats.ok.0 (c.serve_seats.ensures.count ∙ ap (λ (ss : List Seat). length ss) lent) in
    subst (All (IsOut c.args.lock.now base)) (sym whole) (all_ended_are_out c.args.lock.now base ts c.args.scripts.now first new ended)

pub returns-in_err-open_all-clause-counted : goal.returns-in_err-open_all-clause-counted
returns-in_err-open_all-clause-counted g c =
    let none = none_counted c.open_all.new.seats.items (λ k d lt. (c.open_all.ensures.ready k d lt).0.fresh) in
    omega (arith, none)

pub returns-clause-counted : goal.returns-clause-counted
returns-clause-counted g c =
    let base = c.args.root.now.view.base in
    let first = c.args.root.now.view.made + 1 in
    let ts = values_of c.args.translations.now in
    let scripts = c.args.scripts.now in
    let old = c.open_all.new.seats.items in
    let new = c.serve_seats.new.seats in
    let lent = c.as_mut_slice.ensures.value in
    let placed = subst (EachSeat (IsPlaced base first)) (sym lent) (λ k d lt. (c.in_ok-open_all.ensures.ready k d lt).1) in
    let ended = c.serve_seats.ensures.ended base first placed in
    let many = c.serve_seats.ensures.count ∙ ap (λ (ss : List Seat). length ss) lent in
    let whole = written_whole c.open_all.new.seats.len new old c.open_all.new.seats.ok.0 many in
    let within = counted_within scripts new (λ k d lt. let e = ended k d lt in (e.script, e.at, e.counted)) (many ∙ c.in_ok-open_all.ensures.made.1) in
    subst (λ (ss : List Seat). counted_in ss ≤ allowed_in scripts) (sym whole) within

pub returns-clause-ended : goal.returns-clause-ended
returns-clause-ended g c =
    let base = c.args.root.now.view.base in
    let first = c.args.root.now.view.made + 1 in
    let ts = values_of c.args.translations.now in
    let old = c.open_all.new.seats.items in
    let new = c.serve_seats.new.seats in
    let lent = c.as_mut_slice.ensures.value in
    let placed = subst (EachSeat (IsPlaced base first)) (sym lent) (λ k d lt. (c.in_ok-open_all.ensures.ready k d lt).1) in
    let ended = c.serve_seats.ensures.ended base first placed in
    let whole = written_whole c.open_all.new.seats.len new old c.open_all.new.seats.ok.0 (c.serve_seats.ensures.count ∙ ap (λ (ss : List Seat). length ss) lent) in
    subst (EachSeat (λ k (seat : Seat). IsEnded c.args.lock.now base (first + k) ts c.args.scripts.now k seat)) (sym whole) ended
