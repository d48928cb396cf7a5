use Rattle.std.proofs.Common.{◌≡◌, ◌≤◌, All, List, arith, subst}
use Rattle.std.specs.Prelude.{false}
use Rattle.std.proofs.lemmas.List.{take_all}
use Rattle.cnf_core.specs.declared.literal.Lit.{Lit}
use Rattle.cnf_core.specs.Literal.{HasVarsUpTo}
use Rattle.clause_pool.proofs.Fitting.{all_more}
use Rattle.hub_tests.proofs.of_clause_pool.is_within.Goals as goal

pub loop-lit-preserved : goal.loop-lit-preserved
loop-lit-preserved c = all_more (λ (l : Lit). l.var ≤ c.args.vars) c.lits-lits.result.now c.loop-lit.lit-index (record { var = 0; positive = false }) c.loop-lit-test.true c.loop-lit.invariant c.if-lit-vars.false

pub returns : goal.returns
returns c =
    subst (HasVarsUpTo c.args.vars) c.lits-lits.ensures.lits
    (subst (HasVarsUpTo c.args.vars) (take_all c.loop-lit.lit-index c.lits-lits.result.now c.loop-lit-test.false) c.loop-lit.invariant)
