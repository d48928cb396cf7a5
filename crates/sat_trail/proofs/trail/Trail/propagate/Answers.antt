use Rattle.std.proofs.Common.{◌∙◌, sym}
use Rattle.sat_trail.proofs.Waiting.{order_forced}
use Rattle.sat_trail.proofs.trail.Trail.propagate.Goals as goal

pub propagate_all-requires : goal.propagate_all-requires
propagate_all-requires c = c.self.invariant.ready

pub invariant_of-self : goal.invariant_of-self
invariant_of-self c = record {
  ready = c.propagate_all.ensures.ready;
  ordered = order_forced _ _ _ c.propagate_all.ensures.vars c.propagate_all.ensures.more c.self.invariant.ordered;
  met = c.self.invariant.met ∙ sym c.propagate_all.ensures.vars;
}
