-- What clauses say, and of which variables they speak, once others stand behind them.
use Rattle.std.proofs.Common.{inl, inr, List, [], ◌∷◌, ◌++◌, Contains, IsTrue, sym, ◌∙◌, subst, arith, length-append}
use Rattle.std.proofs.lemmas.List.Elements.{All-push, All-contains, Contains-push, Contains-push_cases}
use Rattle.cnf_core.specs.declared.literal.Lit.{Lit}
use Rattle.cnf_core.specs.Literal.{HasSameLiterals}
use Rattle.cnf_core.specs.Valuation.{clause_value}
use Rattle.cnf_core.proofs.SameLiterals.{clause_value-same}
use Rattle.translation_rules.proofs.Tests.{front}
use Rattle.translation.specs.SwapChains.Comparison.{AddsClause}

-- a clause of the same literals
pub push_adds : (lits clause : List Lit) (old : List (List Lit)) → HasSameLiterals lits clause → AddsClause lits old (old ++ clause ∷ [])
push_adds lits clause old same = record {
  means = λ v. (
    λ s. (
      front (λ c. IsTrue (clause_value v c)) old (clause ∷ []) s,
      clause_value-same v lits clause same ∙ All-contains (λ c. IsTrue (clause_value v c)) (old ++ clause ∷ []) clause s (Contains-push old clause),
    ),
    λ p. All-push (λ c. IsTrue (clause_value v c)) old clause p.0 (sym (clause_value-same v lits clause same) ∙ p.1),
  );
  few = omega (arith, length-append old (clause ∷ []));
  vars = λ var is. elim (Contains-push_cases old clause is.clause is.given) [
    | inl before ↦ inl (record { clause = is.clause; literal = is.literal; given = before; member = is.member; same = is.same })
    | inr new ↦ inr (is.literal, (same is.literal).1 (subst (λ c. Contains c is.literal) (sym new) is.member), is.same)
  ];
}
