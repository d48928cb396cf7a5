use Rattle.std.proofs.Common.{flat_map}
use Rattle.std.specs.List.{range_with_len}
use Rattle.lowering_rules.specs.Formula.{signature_says}
use Rattle.rel_lower.specs.Signatures.Said.{Says}
use Rattle.rel_lower.proofs.signature_formulas.signatures.add_signatures.Given as goal

abbrev pub invariant-loop-signature : goal.invariant-loop-signature
invariant-loop-signature l =
    Says l.fn.formulas.items l.formulas.items (flat_map (signature_says l.signatures l.listings) (range_with_len 0 l.signature))
