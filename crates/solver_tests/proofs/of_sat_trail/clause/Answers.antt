use Rattle.std.proofs.Common.{◌≤◌, ◌∷◌, [], Option, List, IfOk, IfSome, subst, arith}
use Rattle.std.proofs.lemmas.List.Elements.{All-push}
use Rattle.cnf_core.specs.declared.literal.Lit.{Lit}
use Rattle.cnf_core.specs.Literal.{HasSameLiterals, HasVarsUpTo}
use Rattle.cnf_core.proofs.SameLiterals.{All-same}
use Rattle.solver_tests.proofs.of_sat_trail.clause.Goals as goal

both_within : (a b : Lit) → a.var ≤ 4 → b.var ≤ 4 → HasVarsUpTo 4 (a ∷ b ∷ [])
both_within a b la lb = All-push (λ l. l.var ≤ 4) (a ∷ []) b (All-push (λ l. l.var ≤ 4) [] a (λ k d h. absurd (omega arith)) la) lb

pub returns : goal.returns
returns g c =
    let lits : List Lit = c.literal.result ∷ c.literal-2.result ∷ [] in
    let made = subst (λ r. IfOk r (λ o. IfSome o (HasSameLiterals lits))) c.expect-clause.ensures c.of.ensures.same in
    let same = subst (λ (o : Option (List Lit)). IfSome o (HasSameLiterals lits)) c.expect.ensures made in
    All-same (λ l. l.var ≤ 4) lits c.expect.result same (both_within _ _ c.literal.ensures.in_range c.literal-2.ensures.in_range)
