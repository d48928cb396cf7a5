use Rattle.std.proofs.Common.{option_map, arith}
use Rattle.rel_formula.specs.View.{expression_tree}
use Rattle.rel_lower.proofs.Signatures.Extended.{union_next}
use Rattle.rel_lower.proofs.signature_formulas.extensions.union_of_extensions.Goals as goal

pub loop-number-preserved : goal.loop-number-preserved
loop-number-preserved c =
    union_next c.args.parent c.args.signatures.now c.loop-number.number c.index-signatures-number.result (option_map expression_tree c.loop-number.union) (option_map expression_tree c.in_ok-union.union)
    (let l = c.loop-number-test.true in omega arith) c.index-signatures-number.is c.loop-number.invariant c.in_ok-union.ensures
