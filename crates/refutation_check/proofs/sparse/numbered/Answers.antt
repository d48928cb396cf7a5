use Rattle.std.proofs.Common.{arith, ◌∙◌}
use Rattle.std.proofs.lemmas.List.{take_all}
use Rattle.refutation_check.proofs.Numbers.{clause_of_numbers}
use Rattle.refutation_check.proofs.sparse.numbered.Goals as goal

pub in_order-requires : goal.in_order-requires
in_order-requires c =
    let is = c.loop-lit.invariant in
    clause_of_numbers c.args.names.now c.requires.numbering c.loop-lit.made.items c.args.lits.now (is.named ∙ take_all _ _ (omega arith)) is.within c.requires.clause
