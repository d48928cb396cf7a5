use Rattle.std.proofs.Common.{map, take}
use Rattle.named_model.specs.declared.named.Signature.{Signature}
use Rattle.named_model.specs.Signatures.{extends_to, numbers_where}
use Rattle.rel_lower.specs.Signatures.Said.{Says}
use Rattle.rel_lower.specs.Signatures.Extending.{apart}
use Rattle.rel_lower.proofs.signature_formulas.extensions.add_apart.Given as goal

abbrev pub invariant-loop-earlier : goal.invariant-loop-earlier
invariant-loop-earlier l =
    Says l.fn.formulas.items l.formulas.items (map (apart l.signature) (numbers_where (λ (x : Signature). extends_to l.parent x.parent) 0 (take l.earlier l.signatures)))
