use Rattle.std.proofs.Common.{All, sym, subst}
use Rattle.refutation_check.specs.Numbering.{IsNumbered}
use Rattle.refutation_check.proofs.sparse.numbered_formula.Goals as goal

pub numbered-requires-clause-numbered : goal.numbered-requires-clause-numbered
numbered-requires-clause-numbered c =
    let all = subst (All (IsNumbered c.args.names.now)) (sym c.clauses-clauses.ensures.clauses) c.requires.numbered in
    rw c.lits.ensures.lits (subst (IsNumbered c.args.names.now) (sym c.clause-item.is) (all c.loop-clause.clause-index c.clause-item.result c.loop-clause-test.true))
