use Rattle.std.proofs.Common.{◌≡◌, ◌∙◌, ℕ, All, arith, ap, length, subst, sym}
use Rattle.cnf_core.specs.Formula.{Formula}
use Rattle.cnf_core.specs.Literal.{HasVarsUpTo}
use Rattle.refutation_check.specs.declared.log.Step.{Step}
use Rattle.solver_tests.proofs.of_kept_search.left_out.Goals as goal

pub append-requires-clause-vars : goal.append-requires-clause-vars
append-requires-clause-vars c = subst (λ (f : Formula). All (HasVarsUpTo f.vars) c.args.local.now) (sym c.in_ok-whole.ensures) c.requires.locals

pub append-requires-clause-room : goal.append-requires-clause-room
append-requires-clause-room c = omega (arith, c.requires.few, ap (λ (f : Formula). length f.clauses) c.in_ok-whole.ensures)

pub is_refuted-requires : goal.is_refuted-requires
is_refuted-requires c =
    let vars : c.append.new.self.vars ≡ c.args.f.now.vars = ap (λ (f : Formula). f.vars) c.in_ok-append.ensures.ok ∙ ap (λ (f : Formula). f.vars) c.in_ok-whole.ensures in
    subst (λ (n : ℕ). All (λ (s : Step). HasVarsUpTo n s.clause) c.args.log.now) (sym vars) c.requires.log
