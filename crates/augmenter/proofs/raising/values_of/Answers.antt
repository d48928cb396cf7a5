use Rattle.std.proofs.Common.{◌+◌, ◌∷◌, [], Bool, List, length, arith, sym, ap, subst, length-append}
use Rattle.unit_propagation.specs.Assignments.Trail.{falses_of}
use Rattle.sat_core.specs.Search.{AreValues}
use Rattle.sat_core.proofs.Descents.{value_false, values_more}
use Rattle.augmenter.proofs.raising.values_of.Goals as goal

pub loop-var-preserved : goal.loop-var-preserved
loop-var-preserved c =
    let was = c.loop-var.invariant in
    let items = c.in_ok-push.ensures.items in
    let has = value_false _ _ c.value.result c.value.ensures (c.requires (c.loop-var.var + 1) (omega arith) (omega (arith, c.loop-var-test.true, c.vars-var-end.ensures.vars))) in
    record {
      long = omega (arith, ap length items, length-append c.loop-var.values.items (c.unwrap_or.result ∷ []), was.long);
      values = rw items (values_more _ _ _ was.values (rw (was.long, c.unwrap_or.ensures) has));
    }

pub returns-clause-long : goal.returns-clause-long
returns-clause-long c = omega (arith, ap length c.of.ensures, c.loop-var.invariant.long, c.vars-var-end.ensures.vars, c.loop-var-test.false)

pub returns-clause-values : goal.returns-clause-values
returns-clause-values c = subst (λ (vs : List Bool). AreValues (falses_of c.args.trail.now.assigned) vs) (sym c.of.ensures) c.loop-var.invariant.values
