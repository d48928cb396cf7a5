use Rattle.std.proofs.Common.{refl, ap, sym, ◌∙◌, arith, slice_set}
use Rattle.std.proofs.lemmas.List.{nil_from_length}
use Rattle.alloy_types.specs.Outcomes.{the_other}
use Rattle.alloy_types.proofs.WithOutcomes.{settled_start, settled_thing, settled_fault, settled_end, inside_now}
use Rattle.alloy_types.proofs.settled.settle.Goals as goal

pub loop-outcome-init : goal.loop-outcome-init
loop-outcome-init g c = settled_start the_other c.args.things.now.items c.args.outcomes.items

pub index_mut-requires : goal.index_mut-requires
index_mut-requires g c =
    let inside = inside_now the_other c.args.things.now.items c.args.outcomes.items c.requires c.loop-outcome.outcomes.items c.pop.new.self.items c.in-Some.outcome c.in-Some.ensures.items c.loop-outcome.things.items c.loop-outcome.invariant in
    omega (arith, inside, c.len.ensures, c.pop.new.self.ok.0, c.loop-outcome.things.ok.0)

pub loop-outcome-preserved-in-Ok : goal.loop-outcome-preserved-in-Ok
loop-outcome-preserved-in-Ok g c =
    settled_thing the_other c.args.things.now.items c.args.outcomes.items c.requires c.loop-outcome.outcomes.items c.pop.new.self.items c.in-Some.outcome c.in-Some.ensures.items c.loop-outcome.things.items c.loop-outcome.invariant
    c.in-Ok.thing c.in-Ok.thing (slice_set c.loop-outcome.things.items c.len.result c.in-Ok.thing) c.in-Ok.is (λ x is. refl) (ap (λ n. slice_set c.loop-outcome.things.items n c.in-Ok.thing) (c.len.ensures ∙ c.pop.new.self.ok.0))

pub loop-outcome-preserved : goal.loop-outcome-preserved
loop-outcome-preserved g c =
    settled_fault the_other c.args.things.now.items c.args.outcomes.items c.requires c.loop-outcome.outcomes.items c.pop.new.self.items c.in-Some.outcome c.in-Some.ensures.items c.loop-outcome.things.items c.loop-outcome.invariant
    c.in-Err.field-0 c.in-Err.is

pub returns : goal.returns
returns g c =
    settled_end the_other c.args.things.now.items c.args.outcomes.items c.loop-outcome.outcomes.items c.loop-outcome.things.items
    (nil_from_length c.loop-outcome.outcomes.items (sym c.loop-outcome.outcomes.ok.0 ∙ c.in_default.ensures.cases.0)) c.loop-outcome.invariant
