use Rattle.std.proofs.Common.{◌≡◌, List, ℕ, Some, All, length, sym, ap, subst, arith}
use Rattle.rel_formula.specs.Instance.{AreCells}
use Rattle.crew_run.specs.Searching.{IsSearcher}
use Rattle.crew_run.proofs.Working.{has_blocked_front, may_write, no_fewer, nothing_read, read_still, readable_read, ready_still, task_of, told_stays_first}
use Rattle.crew_run.proofs.work.rounds.Goals as goal

pub event-requires-clause-read : goal.event-requires-clause-read
event-requires-clause-read g c =
    readable_read c.args.lock.now c.args.translation.now c.args.budget c.args.most c.loop-round.pass c.read_on.new.pass c.read_on.new.reading c.loop-round.invariant.ready c.in_ok-read_on.ensures.goes c.in_ok-read_on.ensures.read c.requires.most

pub write_down-requires-clause-may : goal.write_down-requires-clause-may
write_down-requires-clause-may g c =
    may_write c.args.lock.now c.args.translation.now c.args.budget c.args.most c.loop-round.pass c.read_on.new.pass c.read_on.new.reading c.loop-round.invariant.ready c.in_ok-read_on.ensures.goes c.in_ok-read_on.ensures.read c.in_ok-event.event c.in_ok-event.ensures.event

pub loop-round-init : goal.loop-round-init
loop-round-init g c = record {
  ready = c.requires.ready;
  searcher = subst (λ (ts : List (List ℕ)). IsSearcher c.args.translation.now ts c.args.searcher.now) (sym c.new-reading.ensures.1) c.requires.searcher;
  read = nothing_read c.args.pass.now.view.seen c.new-reading.result c.new-reading.ensures.0 c.new-reading.ensures.1 c.new-reading.ensures.2;
}

pub loop-round-preserved : goal.loop-round-preserved
loop-round-preserved g c =
    let base = Some (task_of c.args.translation.now c.args.budget c.args.most) in
    record {
      ready = ready_still c.args.lock.now base c.read_on.new.pass c.write_down.new.pass (ready_still c.args.lock.now base c.loop-round.pass c.read_on.new.pass c.loop-round.invariant.ready c.in_ok-read_on.ensures.goes) c.write_down.ensures;
      searcher = c.in_ok-event.ensures.searcher;
      read = read_still c.args.lock.now c.args.translation.now c.args.budget c.args.most c.loop-round.pass c.read_on.new.pass c.read_on.new.reading c.loop-round.invariant.ready c.in_ok-read_on.ensures.goes c.in_ok-read_on.ensures.read c.write_down.new.pass c.write_down.ensures;
    }

pub returns-in_err-read_on : goal.returns-in_err-read_on
returns-in_err-read_on g c =
    let base = Some (task_of c.args.translation.now c.args.budget c.args.most) in
    ready_still c.args.lock.now base c.loop-round.pass c.read_on.new.pass c.loop-round.invariant.ready c.in_err-read_on.ensures.goes

pub returns-then-not-branch : goal.returns-then-not-branch
returns-then-not-branch g c =
    let base = Some (task_of c.args.translation.now c.args.budget c.args.most) in
    ready_still c.args.lock.now base c.loop-round.pass c.read_on.new.pass c.loop-round.invariant.ready c.in_ok-read_on.ensures.goes

pub returns-in_err-event : goal.returns-in_err-event
returns-in_err-event g c =
    let base = Some (task_of c.args.translation.now c.args.budget c.args.most) in
    ready_still c.args.lock.now base c.loop-round.pass c.read_on.new.pass c.loop-round.invariant.ready c.in_ok-read_on.ensures.goes

pub returns-in_err-write_down : goal.returns-in_err-write_down
returns-in_err-write_down g c =
    let base = Some (task_of c.args.translation.now c.args.budget c.args.most) in
    ready_still c.args.lock.now base c.read_on.new.pass c.write_down.new.pass (ready_still c.args.lock.now base c.loop-round.pass c.read_on.new.pass c.loop-round.invariant.ready c.in_ok-read_on.ensures.goes) c.write_down.ensures

pub returns-then-is_last : goal.returns-then-is_last
returns-then-is_last g c =
    let base = Some (task_of c.args.translation.now c.args.budget c.args.most) in
    ready_still c.args.lock.now base c.read_on.new.pass c.write_down.new.pass (ready_still c.args.lock.now base c.loop-round.pass c.read_on.new.pass c.loop-round.invariant.ready c.in_ok-read_on.ensures.goes) c.write_down.ensures

pub returns : goal.returns
returns g c = c.loop-round.invariant.ready

pub write_down-requires-clause-own : goal.write_down-requires-clause-own
write_down-requires-clause-own g c = c.in_ok-read_on.ensures.goes.own

pub write_down-requires-clause-read : goal.write_down-requires-clause-read
write_down-requires-clause-read g c = c.in_ok-read_on.ensures.read.all

pub write_down-requires-clause-idle : goal.write_down-requires-clause-idle
write_down-requires-clause-idle g c = c.in_ok-read_on.ensures.goes.idle

pub read_on-requires-clause-idle : goal.read_on-requires-clause-idle
read_on-requires-clause-idle g c = c.loop-round.invariant.ready.idle

pub read_on-requires-clause-reading : goal.read_on-requires-clause-reading
read_on-requires-clause-reading g c = c.loop-round.invariant.read

pub block_all-requires-clause-searcher : goal.block_all-requires-clause-searcher
block_all-requires-clause-searcher g c =
    let known : c.len-known.result ≡ length c.loop-round.reading.told.items = omega arith in
    has_blocked_front c.args.translation.now c.loop-round.pass.view.seen c.read_on.new.pass.view.seen c.loop-round.reading c.read_on.new.reading c.loop-round.searcher c.len-known.result c.as_slice.result.now known c.as_slice.ensures.value
    c.loop-round.invariant.read c.in_ok-read_on.ensures.goes.seen c.in_ok-read_on.ensures.read c.loop-round.invariant.searcher

pub block_all-requires-clause-known : goal.block_all-requires-clause-known
block_all-requires-clause-known g c =
    let old : List (List ℕ) = c.loop-round.reading.told.items in
    let new : List (List ℕ) = c.read_on.new.reading.told.items in
    let less = no_fewer old new (told_stays_first c.loop-round.pass.view.seen c.read_on.new.pass.view.seen c.loop-round.reading c.read_on.new.reading c.loop-round.invariant.read c.in_ok-read_on.ensures.goes.seen c.in_ok-read_on.ensures.read) in
    let all = ap length c.as_slice.ensures.value in
    omega arith

pub block_all-requires-clause-cells : goal.block_all-requires-clause-cells
block_all-requires-clause-cells g c =
    let readable = readable_read c.args.lock.now c.args.translation.now c.args.budget c.args.most c.loop-round.pass c.read_on.new.pass c.read_on.new.reading c.loop-round.invariant.ready c.in_ok-read_on.ensures.goes c.in_ok-read_on.ensures.read c.requires.most in
    subst (All (AreCells c.args.translation.now.problem)) (sym c.as_slice.ensures.value) readable.cells

pub block_all-requires-clause-few : goal.block_all-requires-clause-few
block_all-requires-clause-few g c =
    let readable = readable_read c.args.lock.now c.args.translation.now c.args.budget c.args.most c.loop-round.pass c.read_on.new.pass c.read_on.new.reading c.loop-round.invariant.ready c.in_ok-read_on.ensures.goes c.in_ok-read_on.ensures.read c.requires.most in
    let few = readable.few in
    let same = ap length c.as_slice.ensures.value in
    omega arith

pub returns-in_err-block_all : goal.returns-in_err-block_all
returns-in_err-block_all g c =
    let base = Some (task_of c.args.translation.now c.args.budget c.args.most) in
    ready_still c.args.lock.now base c.loop-round.pass c.read_on.new.pass c.loop-round.invariant.ready c.in_ok-read_on.ensures.goes

pub event-requires-clause-searcher : goal.event-requires-clause-searcher
event-requires-clause-searcher g c = subst (λ (ts : List (List ℕ)). IsSearcher c.args.translation.now ts c.block_all.new.self) c.as_slice.ensures.value c.in_ok-block_all.ensures
