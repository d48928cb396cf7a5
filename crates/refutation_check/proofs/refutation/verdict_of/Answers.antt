use Rattle.std.proofs.Common.{◌+◌, take, subst, sym, List, All}
use Rattle.cnf_core.specs.Literal.{HasVarsUpTo}
use Rattle.refutation_check.specs.declared.log.Step.{Step}
use Rattle.refutation_check.specs.Assumed.{Assumed}
use Rattle.refutation_check.specs.Chain.{members_of}
use Rattle.refutation_check.specs.Verdict.{FailsAt, FailsFirst}
use Rattle.refutation_check.proofs.Verdicts.{fails_first, members_within}
use Rattle.refutation_check.proofs.refutation.verdict_of.Goals as goal

pub first_failure-requires-clause-members : goal.first_failure-requires-clause-members
first_failure-requires-clause-members c =
    subst (λ (a : Assumed). All (HasVarsUpTo a.vars) (members_of c.args.f.now.clauses (take c.loop-i.i c.steps-steps.result.now))) (sym c.loop-i.invariant.assumed)
    (members_within _ _ _ _ c.loop-i.i c.vars.ensures.formula.within c.requires.formula (rw c.steps-steps.ensures.steps c.requires.log))

pub returns-in-Some-clause-fits : goal.returns-in-Some-clause-fits
returns-in-Some-clause-fits c =
    let here = subst (λ (s : Step). FailsAt (members_of c.args.f.now.clauses (take c.loop-i.i c.steps-steps.result.now)) s.clause s.hints c.in-Some.hint) c.index-steps-i.is c.in-Some.ensures.failure in
    let first = fails_first c.args.f.now.clauses c.steps-steps.result.now c.loop-i.i c.index-steps-i.result c.in-Some.hint c.loop-i-test.true c.loop-i.invariant.accepted here in
    subst (λ (steps : List Step). FailsFirst c.args.f.now.clauses steps (c.loop-i.i + 1) c.in-Some.hint) c.steps-steps.ensures.steps first
