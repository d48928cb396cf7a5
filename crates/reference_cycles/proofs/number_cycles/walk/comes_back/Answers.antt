use Rattle.std.proofs.Common.{◌≡◌, ◌<◌, ◌≤◌, length, sym, ◌∙◌, arith}
use Rattle.reference_cycles.specs.Cycles.Walks.{rows_of}
use Rattle.reference_cycles.proofs.Cycles.NumbersMet.{among_is, rows_count, begun_at, further_at, met_below, few_met, ended_with, ended_without}
use Rattle.reference_cycles.proofs.number_cycles.walk.comes_back.Goals as goal

pub row-requires-in-loop-next : goal.row-requires-in-loop-next
row-requires-in-loop-next c =
    let rows = rows_of c.args.rows.now in
    let count : length (rows_of c.args.rows.now) ≡ length c.args.rows.now = rows_count c.args.rows.now in
    let next : c.loop-next.next < length c.loop-next.met.keys = omega (arith, c.loop-next-test.true, c.len.ensures.len) in
    let low : c.number_at-number.result < length (rows_of c.args.rows.now) = met_below rows c.args.start c.loop-next.met.keys c.loop-next.next c.loop-next.invariant c.number_at-number.result next c.number_at-number.ensures in
    omega (arith, low, count)

pub loop-next-smaller : goal.loop-next-smaller
loop-next-smaller c =
    let rows = rows_of c.args.rows.now in
    let count : length (rows_of c.args.rows.now) ≡ length c.args.rows.now = rows_count c.args.rows.now in
    let few : length c.loop-next.met.keys ≤ length (rows_of c.args.rows.now) = few_met rows c.args.start c.loop-next.met.keys c.loop-next.next c.loop-next.invariant c.len.ensures.unique in
    omega (arith, c.loop-next-test.true, c.len.ensures.len, few, count)

pub loop-next-preserved : goal.loop-next-preserved
loop-next-preserved c =
    let next : c.loop-next.next < length c.loop-next.met.keys = omega (arith, c.loop-next-test.true, c.len.ensures.len) in
    further_at (rows_of c.args.rows.now) c.args.start c.loop-next.met.keys c.loop-next.next c.loop-next.invariant c.meet-in-loop-next.new.met.keys c.number_at-number.result (length c.args.rows.now) c.row-in-loop-next.result.now next c.number_at-number.ensures (sym (rows_count c.args.rows.now)) c.row-in-loop-next.ensures c.in_ok-meet-2.ensures

pub returns-clause-yes : goal.returns-clause-yes
returns-clause-yes c = λ again.
    ended_with (rows_of c.args.rows.now) c.args.start c.loop-next.met.keys c.loop-next.next c.loop-next.invariant c.len.ensures.unique (sym (among_is c.args.start c.loop-next.met.keys) ∙ (sym c.contains.ensures ∙ again))

pub returns-clause-no : goal.returns-clause-no
returns-clause-no c = λ never.
    let count : length (rows_of c.args.rows.now) ≡ length c.args.rows.now = rows_count c.args.rows.now in
    let all : length c.loop-next.met.keys ≤ c.loop-next.next = omega (arith, c.loop-next-test.false, c.len.ensures.len) in
    let there : c.args.start < length (rows_of c.args.rows.now) = omega (arith, c.requires.there, count) in
    ended_without (rows_of c.args.rows.now) c.args.start c.loop-next.met.keys c.loop-next.next c.loop-next.invariant all there (sym (among_is c.args.start c.loop-next.met.keys) ∙ (sym c.contains.ensures ∙ never))
