use Rattle.std.proofs.Common.{◌≡◌, length, ap, arith}
use Rattle.name_tables.specs.InForce.{InForce}
use Rattle.sig_resolve.proofs.Bodies.Depths.{leave_one}
use Rattle.sig_resolve.proofs.body_names.locals.leave_until.Goals as goal

pub each-preserved : goal.each-preserved
each-preserved c = record {
  left = λ inner outer is deep.
      leave_one c.args.names.now c.each.names c.leave.new.self outer (omega (arith, c.each-test.true, c.depth.ensures, deep)) c.leave.ensures (c.each.invariant.left inner outer is deep);
  short = λ few.
      let same : length c.each.names.locals ≡ length c.args.names.now.locals = ap (λ (n : InForce). length n.locals) (c.each.invariant.short few) in
      absurd (omega (arith, c.each-test.true, c.depth.ensures, same, few));
}
