use Rattle.std.proofs.Common.{◌≡◌, ℕ, List, All, length, arith, ap, ◌∙◌, sym, subst, length-append, length-drop, length-take}
use Rattle.cnf_core.specs.Literal.{HasVarsUpTo}
use Rattle.sat_trail.proofs.Waiting.{order_raised}
use Rattle.sat_trail.proofs.trail.Trail.raise_met.Goals as goal

pub raise_met-requires-clause-hints : goal.raise_met-requires-clause-hints
raise_met-requires-clause-hints c = rw (← c.self.view_is) at c.requires

pub raise_met-requires-clause-vars : goal.raise_met-requires-clause-vars
raise_met-requires-clause-vars c = subst (λ (n : ℕ). All (HasVarsUpTo n) c.self.inside.store) (sym c.self.invariant.ordered.long) c.self.invariant.ready.within

pub raise_met-requires-clause-long : goal.raise_met-requires-clause-long
raise_met-requires-clause-long c = rw c.as_mut_slice.ensures.value (c.self.invariant.met ∙ sym c.self.invariant.ordered.long)

pub invariant_of-self : goal.invariant_of-self
invariant_of-self c = record {
  ready = c.self.invariant.ready;
  ordered = order_raised _ _ _ _ c.raise_met.ensures.waiting c.raise_met.ensures.long c.self.invariant.ordered;
  met =
      let items : List ℕ = c.self.inside.met_by.items in
      let same : length c.raise_met.new.met_by ≡ length items = c.raise_met.auto.met_by ∙ ap length c.as_mut_slice.ensures.value in
      simp (length-take, length-append, length-drop) (omega (arith, same, ap length c.as_mut_slice.ensures.value, c.as_mut_slice.ensures.len, c.self.invariant.met));
}
