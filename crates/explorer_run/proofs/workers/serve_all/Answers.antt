use Rattle.std.proofs.Common.{◌+◌, Option, List, subst}
use Rattle.std.specs.Prelude.{Vec}
use Rattle.std.specs.List.{AllZip}
use Rattle.std.proofs.lemmas.Result.{IfOk-weaker}
use Rattle.std.specs.declared.alloc.Global.{Global}
use Rattle.rel_formula.specs.Bounds.{Bounded}
use Rattle.session_rules.specs.declared.script.Transcript.{Transcript}
use Rattle.explorer_run.specs.declared.seats.Seat.{Seat}
use Rattle.explorer_run.specs.Served.{AreServedFrom, values_of}
use Rattle.explorer_run.specs.Seats.{IsEnded, EachSeat}
use Rattle.explorer_run.proofs.Gathering.{Told}
use Rattle.explorer_run.proofs.InOrder.{all_in_order}
use Rattle.explorer_run.proofs.Rooted.{root_gathers, stays_then}
use Rattle.explorer_run.proofs.workers.serve_all.Goals as goal

pub returns-in_err-ended-clause-root : goal.returns-in_err-ended-clause-root
returns-in_err-ended-clause-root g c =
    let ts = values_of c.args.translations.now in
    let mid = c.open_and_serve-ended.new.root in
    let new = c.gather-transcripts.new.root in
    let open_ = c.open_and_serve-ended.ensures.root in
    let back = c.gather-transcripts.ensures in
    stays_then c.args.lock.now ts c.args.root.now mid new open_ (root_gathers c.args.lock.now ts mid new open_.root back.idle back.number back.base back.own back.seen)

pub returns-clause-root : goal.returns-clause-root
returns-clause-root g c =
    let ts = values_of c.args.translations.now in
    let mid = c.open_and_serve-ended.new.root in
    let new = c.gather-transcripts.new.root in
    let open_ = c.open_and_serve-ended.ensures.root in
    let back = c.gather-transcripts.ensures in
    stays_then c.args.lock.now ts c.args.root.now mid new open_ (root_gathers c.args.lock.now ts mid new open_.root back.idle back.number back.base back.own back.seen)

pub returns-clause-told : goal.returns-clause-told
returns-clause-told g c problems base =
    let lock = c.args.lock.now in
    let ts = values_of c.args.translations.now in
    let scripts = c.args.scripts.now in
    let first = c.args.root.now.view.made + 1 in
    let seats = c.open_and_serve-ended.new.seats.items in
    let new = c.gather-transcripts.new.root in
    let back = c.gather-transcripts.ensures in
    let ended = subst (λ (b : Option (List Bounded)). EachSeat (λ k (seat : Seat). IsEnded lock b (first + k) ts scripts k seat) seats) base c.in_ok-ended.ensures.ended in
    IfOk-weaker c.gather-transcripts.result (λ (ys : Vec Transcript Global). AllZip Told seats ys.items) (λ (ys : Vec Transcript Global). AreServedFrom problems new.view.seen ts first scripts ys.items)
    (λ ys zip. all_in_order c.what_a_session_did_stays.ensures problems new.view.seen lock first ts scripts seats ys.items ended back.back zip c.in_ok-ended.ensures.made.1) back.transcripts
