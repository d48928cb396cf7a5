use Rattle.std.proofs.Common.{◌≡◌, ◌∙◌, ◌≤◌, not, cond, true, false, Bool, refl, arith}
use mir.Val.{bool_byte}
use Rattle.rel_lower.proofs.Bounding.Cells.{count_more}
use Rattle.rel_lower.proofs.field_bounds.relations.cells_of.Goals as goal

as_number : (b : Bool) → bool_byte b ≡ cond b 1 0
as_number true = refl
as_number false = refl

at_most_one : (b : Bool) → bool_byte b ≤ 1
at_most_one true = omega arith
at_most_one false = omega arith

pub loop-tuple-preserved : goal.loop-tuple-preserved
loop-tuple-preserved c =
    let more = c.from-cells.ensures in
    let one = at_most_one (not c.contains.result) in
    let few = c.loop-tuple.invariant.few in
    record {
      count = count_more c.args.relation.now.lower.rows c.rows-tuple-items.result.now c.loop-tuple.tuple-index c.tuple-item.result c.contains.result c.loop-tuple.cells c.from-cells.result c.loop-tuple-test.true c.tuple-item.is
          c.contains.ensures (more ∙ as_number (not c.contains.result)) c.loop-tuple.invariant.count;
      few = omega (arith, more, one, few);
    }
