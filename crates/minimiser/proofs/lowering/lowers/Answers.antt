use Rattle.sat_core.proofs.Searches.{none_decided}
use Rattle.minimiser.proofs.LoweredTrails.{leads_first}
use Rattle.minimiser.proofs.lowering.lowers.Goals as goal

pub bounds_all-requires-clause-leads : goal.bounds_all-requires-clause-leads
bounds_all-requires-clause-leads c =
    let back = c.back_to.new.self in
    let now = c.in-Closed.ensures in
    leads_first c.args.floor.now c.args.cells back c.propagate.new.self now.clauses now.trail now.propagated now.assigned
    (none_decided c.args.trail.now.clauses c.args.trail.now.assigned back.assigned c.level.ensures.trail c.back_to.ensures.assigned)

pub returns-then-bounds_all-clause-lowered : goal.returns-then-bounds_all-clause-lowered
returns-then-bounds_all-clause-lowered c =
    let first = c.bounds_all.ensures in
    let on = c.if-bounds_all.true in
    let now = c.settles_all.ensures in
    λ t. record {
      leads = now.led c.args.floor.now (first.led on) t;
      valued = now.valued t;
      bounded = λ cell less. let b = first.bounded on cell less in record { above = λ there. now.more _ (b.above there); within = λ out far. now.more _ (b.within out far) };
    }
