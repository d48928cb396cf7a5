use Rattle.std.proofs.Common.{arith}
use Rattle.rel_lower.proofs.Signatures.FormulaLists.{says_nothing}
use Rattle.rel_lower.proofs.Signatures.Extended.{apart_next, apart_end}
use Rattle.rel_lower.proofs.signature_formulas.extensions.add_apart.Goals as goal

pub loop-earlier-init : goal.loop-earlier-init
loop-earlier-init c = says_nothing c.args.formulas.now.items

pub loop-earlier-preserved : goal.loop-earlier-preserved
loop-earlier-preserved c =
    apart_next c.args.signature c.args.parent c.args.signatures.now c.loop-earlier.earlier c.index-signatures-earlier.result
    c.args.formulas.now.items c.loop-earlier.formulas.items c.add_apart_from.new.formulas.items
    (let l = c.loop-earlier-test.true in let m = c.requires in omega arith) c.index-signatures-earlier.is c.loop-earlier.invariant c.in_ok-add_apart_from.ensures

pub returns : goal.returns
returns c =
    apart_end c.args.signature c.args.parent c.args.signatures.now c.loop-earlier.earlier c.args.formulas.now.items c.loop-earlier.formulas.items
    (let l = c.loop-earlier-test.false in let m = c.loop-earlier.auto.earlier-end in omega arith) c.loop-earlier.invariant
