use Rattle.std.proofs.Common.{◌∙◌, sym}
use Rattle.sat_trail.proofs.trail.Trail.back_to.Goals as goal

pub put_back_above-requires : goal.put_back_above-requires
put_back_above-requires c = c.self.invariant.ordered

pub back_to-requires : goal.back_to-requires
back_to-requires c = c.self.invariant.ready

pub invariant_of-self : goal.invariant_of-self
invariant_of-self c = record {
  ready = c.back_to.ensures.ready;
  ordered = rw c.back_to.ensures.vars (c.put_back_above.ensures _ c.back_to.ensures.assigned);
  met = c.self.invariant.met ∙ sym c.back_to.ensures.vars;
}
