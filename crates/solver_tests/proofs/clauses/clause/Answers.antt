use Rattle.std.proofs.Common.{◌≤◌, Option, List, All, IfSome, subst, arith}
use Rattle.cnf_core.specs.declared.literal.Lit.{Lit}
use Rattle.cnf_core.specs.Literal.{HasSameLiterals}
use Rattle.cnf_core.proofs.SameLiterals.{All-same}
use Rattle.solver_tests.proofs.clauses.clause.Goals as goal

pub of-requires : goal.of-requires
of-requires c =
    let small = c.loop-number.invariant in
    rw c.as_slice.ensures.value (λ k d h. let both = small k d h in (both.0, omega (arith, both.1, c.requires)))

pub returns-in-Some : goal.returns-in-Some
returns-in-Some c =
    let same = subst (λ (made : Option (List Lit)). IfSome made (HasSameLiterals c.as_slice.result.now)) c.in-Some.is c.in_ok-clause.ensures.same in
    let small : All (λ (l : Lit). l.var ≤ c.args.vars) c.as_slice.result.now = rw c.as_slice.ensures.value (λ k d h. (c.loop-number.invariant k d h).1) in
    All-same (λ l. l.var ≤ c.args.vars) c.as_slice.result.now c.in-Some.clause same small
