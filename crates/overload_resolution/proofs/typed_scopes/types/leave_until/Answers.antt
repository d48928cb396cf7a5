use Rattle.std.proofs.Common.{◌≡◌, List, length, sym, ap, subst, arith}
use Rattle.model_types.specs.Typing.{Local}
use Rattle.overload_resolution.specs.Scopes.Zipped.{IsInside}
use Rattle.overload_resolution.proofs.Scopes.Insides.{left_inside}
use Rattle.overload_resolution.proofs.typed_scopes.types.leave_until.Goals as goal

pub each-preserved : goal.each-preserved
each-preserved c = record {
  left = λ inner outer e l.
      subst (λ (ls : List Local). IsInside ls outer) (sym c.leave.ensures)
      (left_inside c.each.scope.locals outer (c.each.invariant.left inner outer e l) (omega (arith, l, c.depth.ensures, c.each-test.true)));
  short = λ few.
      let same : length c.each.scope.locals ≡ length c.args.scope.now.locals = ap length (c.each.invariant.short few) in
      absurd (omega (arith, c.each-test.true, c.depth.ensures, same, few));
}
