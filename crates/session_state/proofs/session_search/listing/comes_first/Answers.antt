use Rattle.std.proofs.Common.{◌≡◌, ◌<◌, ◌≤◌, ◌∙◌, drop, length, get_or, sym, arith}
use Rattle.session_state.proofs.Sessions.Ordered.{same_here, beyond, over}
use Rattle.session_state.proofs.session_search.listing.comes_first.Goals as goal

pub loop-place-preserved : goal.loop-place-preserved
loop-place-preserved c =
    let xs = c.args.first.now in
    let ys = c.args.second.now in
    let i = c.loop-place.place in
    let below : i < length ys = omega arith in
    let same : get_or xs i 0 ≡ get_or ys i 0 = omega arith in
    sym (same_here xs ys i c.loop-place-test.true below same) ∙ c.loop-place.invariant

-- the second list is over
pub returns-then-place-second : goal.returns-then-place-second
returns-then-place-second c =
    let xs = c.args.first.now in
    let ys = c.args.second.now in
    let i = c.loop-place.place in
    let past : length ys ≤ i = omega arith in
    sym (beyond xs ys i c.loop-place-test.true past) ∙ c.loop-place.invariant

pub returns : goal.returns
returns c = sym (over c.args.first.now (drop c.loop-place.place c.args.second.now) c.loop-place.place c.loop-place-test.false) ∙ c.loop-place.invariant
