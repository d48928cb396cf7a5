use Rattle.std.proofs.Common.{arith}
use Rattle.rel_formula.proofs.Lists.{get-Some}
use Rattle.rel_lower.proofs.Placing.Steps.{no_size, size_more, size_all}
use Rattle.rel_lower.proofs.relation_bounds.places.places_of.Goals as goal

pub loop-top-init : goal.loop-top-init
loop-top-init c = no_size c.args.sizes.now c.args.signature c.new-places.result c.new-places.ensures.arity c.new-places.ensures.rows

pub loop-top-preserved : goal.loop-top-preserved
loop-top-preserved c =
    size_more c.args.sizes.now c.args.signature c.loop-top.top _ c.loop-top.places c.add_places.new.places
    (get-Some c.args.sizes.now c.loop-top.top _ c.loop-top-test.true) c.loop-top.invariant c.in_ok-add_places.ensures

pub returns : goal.returns
returns c = size_all c.args.sizes.now c.args.signature c.loop-top.top c.loop-top.places (omega arith) c.loop-top.invariant
