use Rattle.std.proofs.Common.{refl}
use Rattle.rel_formula.proofs.Loops.{rows_within, both_true, both_false}
use Rattle.tuple_core.proofs.Steps.{then_same}
use Rattle.rel_formula.proofs.evaluate.are_equal.Goals as goal

pub returns-then-within : goal.returns-then-within
returns-then-within c =
    let within = then_same c.is_subset-within.ensures (rows_within c.args.left.now c.args.right.now) in
    let around = then_same c.is_subset-around.ensures (rows_within c.args.right.now c.args.left.now) in
    both_true c.is_subset-within.result c.is_subset-around.result c.is_subset-around.result c.if-within.true refl within around

pub returns-else-within : goal.returns-else-within
returns-else-within c =
    let within = then_same c.is_subset-within.ensures (rows_within c.args.left.now c.args.right.now) in
    both_false c.is_subset-within.result c.is_subset-within.result c.if-within.false c.if-within.false within
