use Rattle.lowering_rules.specs.Formula.{signature_says}
use Rattle.rel_lower.proofs.Signatures.FormulaLists.{says_nothing}
use Rattle.rel_lower.proofs.Signatures.Extended.{says_next}
use Rattle.rel_lower.proofs.signature_formulas.signatures.add_signatures.Goals as goal

pub loop-signature-init : goal.loop-signature-init
loop-signature-init c = says_nothing c.args.formulas.now.items

pub loop-signature-preserved : goal.loop-signature-preserved
loop-signature-preserved c =
    says_next (signature_says c.args.signatures.now c.args.listings.now) c.loop-signature.signature
    c.args.formulas.now.items c.loop-signature.formulas.items c.add_signature.new.formulas.items c.loop-signature.invariant c.in_ok-add_signature.ensures
