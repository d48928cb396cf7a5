use Rattle.std.proofs.Common.{sym, subst}
use Rattle.std.specs.Prelude.{IfSome}
use Rattle.cnf_core.specs.Literal.{HasSameLiterals}
use Rattle.translation.specs.SwapChains.Comparison.{AddsClause}
use Rattle.translation.proofs.SwapChains.AddedClauses.{push_adds}
use Rattle.translation.proofs.swap_clauses.comparison.add_clause.Goals as goal

pub returns-in_ok-push-in-Some : goal.returns-in_ok-push-in-Some
returns-in_ok-push-in-Some c =
    let lits = c.args.lits.now in
    let old = c.args.clauses.now.items in
    subst (AddsClause lits old) (sym c.in_ok-push-in-Some.ensures.items)
    (push_adds lits c.in-Some.clause old (subst (λ made. IfSome made (HasSameLiterals lits)) c.in-Some.is c.in_ok-clause.ensures.same))
