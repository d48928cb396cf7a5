use Rattle.std.proofs.Common.{◌<◌, ◌+◌, ◌^◌, length, sym, subst}
use Rattle.cnf_core.specs.Literal.{HasVarsUpTo}
use Rattle.cnf_core.specs.Formula.{Formula}
use Rattle.cnf_core.proofs.Formulas.{IsFormula-push}
use Rattle.cnf_core.proofs.cnf.Cnf.push.Goals as goal

pub invariant_of-self-2 : goal.invariant_of-self-2
invariant_of-self-2 c =
    let within = subst (λ (f : Formula). HasVarsUpTo f.vars c.args.c) (sym c.self.view_is) c.requires.vars in
    let room = subst (λ (f : Formula). length f.clauses + 1 < 2 ^ 30) (sym c.self.view_is) c.requires.room in
    rw c.in_ok-push.ensures.items (IsFormula-push _ c.args.c c.self.invariant c.lits.ensures.clause within room)
