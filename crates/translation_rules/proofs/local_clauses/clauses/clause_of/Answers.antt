use Rattle.std.proofs.Common.{◌≡◌, List, refl, sym, subst}
use Rattle.std.specs.Prelude.{Option, IsNone, IfSome, ◌↔◌}
use Rattle.cnf_core.specs.declared.literal.Lit.{Lit}
use Rattle.cnf_core.specs.Literal.{IsClause, IsTautology, HasSameLiterals}
use Rattle.translation_rules.proofs.Locals.Sorted.{same_clause, no_tautology}
use Rattle.translation_rules.proofs.local_clauses.clauses.clause_of.Goals as goal

pub unreachable-requires : goal.unreachable-requires
unreachable-requires c =
    let none = subst (λ (made : Option (List Lit)). IsNone made ↔ IsTautology c.args.lits.now) c.in-None.is c.in_ok-clause.ensures.none in
    absurd (no_tautology c.args.lits.now c.requires (none.0 refl))

pub returns : goal.returns
returns c =
    let same = subst (λ (made : Option (List Lit)). IfSome made (HasSameLiterals c.args.lits.now)) c.in-Some.is c.in_ok-clause.ensures.same in
    let is = subst (λ (made : Option (List Lit)). IfSome made IsClause) c.in-Some.is c.in_ok-clause.ensures.clause in
    sym (same_clause c.args.lits.now c.in-Some.clause c.requires is same)
