use Rattle.std.proofs.Common.{◌≤◌, Option, List, IfSome, subst}
use Rattle.cnf_core.specs.declared.literal.Lit.{Lit}
use Rattle.cnf_core.specs.Literal.{HasSameLiterals}
use Rattle.cnf_core.proofs.SameLiterals.{All-same}
use Rattle.solver_tests.proofs.of_cnf_core.clause_of.Goals as goal

pub returns-in-Some : goal.returns-in-Some
returns-in-Some c =
    let same = subst (λ (made : Option (List Lit)). IfSome made (HasSameLiterals c.args.lits.now)) c.in-Some.is c.in_ok-clause.ensures.same in
    All-same (λ l. l.var ≤ 2) c.args.lits.now c.in-Some.clause same (λ k d h. (c.requires k d h).1)
