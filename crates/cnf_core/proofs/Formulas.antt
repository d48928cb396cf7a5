-- What stays true of a formula that grows.
use Rattle.std.proofs.Common.{◌<◌, ◌+◌, ◌^◌, ◌++◌, ◌∷◌, [], List, length, arith, length-append}
use Rattle.std.proofs.lemmas.List.Elements.{All-push}
use Rattle.cnf_core.specs.declared.literal.Lit.{Lit}
use Rattle.cnf_core.specs.Literal.{IsClause, HasVarsUpTo}
use Rattle.cnf_core.specs.Formula.{Formula, IsFormula}

pub IsFormula-push : (f : Formula) (c : List Lit) → IsFormula f → IsClause c → HasVarsUpTo f.vars c → length f.clauses + 1 < 2 ^ 30 →
    IsFormula (record { vars = f.vars; clauses = f.clauses ++ c ∷ [] })
IsFormula-push f c was clause within room =
    record {
      variables = was.variables;
      clauses = All-push IsClause f.clauses c was.clauses clause;
      within = All-push (HasVarsUpTo f.vars) f.clauses c was.within within;
      few = omega (arith, length-append f.clauses (c ∷ []));
    }
