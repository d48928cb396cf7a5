use Rattle.std.proofs.Common.{◌≡◌, take, option_map}
use Rattle.rel_formula.specs.View.{expression_tree}
use Rattle.named_model.specs.declared.named.Signature.{Signature}
use Rattle.named_model.specs.Signatures.{extends_to, numbers_where}
use Rattle.rel_lower.specs.Signatures.Extending.{union_of}
use Rattle.rel_lower.proofs.signature_formulas.extensions.union_of_extensions.Given as goal

abbrev pub invariant-loop-number : goal.invariant-loop-number
invariant-loop-number l =
    option_map expression_tree l.union ≡ union_of (numbers_where (λ (x : Signature). extends_to l.parent x.parent) 0 (take l.number l.signatures))
