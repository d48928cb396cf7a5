-- How many variables a translation has.
use Rattle.std.proofs.Common.{inl, inr, ◌≤◌, ◌+◌, ◌*◌, [], ◌∷◌, ℕ, List, length, flat_map, All, refl, arith}
use Rattle.std.proofs.lemmas.List.Elements.{All-nil, All-cons, All-append, All-weaker, All-contains}
use Rattle.cnf_core.specs.declared.literal.Lit.{Lit}
use Rattle.cnf_core.specs.Literal.{HasVarsUpTo}
use Rattle.cnf_core.specs.Formula.{IsFormula}
use Rattle.refutation_check.specs.declared.log.Step.{Step}
use Rattle.refutation_check.specs.SearchLog.{HasVarsOf}
use Rattle.rel_formula.specs.Bounds.{Bounded, cells_of}
use Rattle.rel_terms.specs.Terms.{HasTerms}
use Rattle.translation_rules.specs.Translation.{SwapClauses, Translated}
use Rattle.translation_rules.proofs.Tests.{flat_has, from_each}
use Rattle.translation.specs.Numbered.{IsNext, AreNumbered}
use Rattle.translation.specs.Kept.{IsTranslation}
use Rattle.work_limits.specs.Variables.{AreOverFirst, all_clauses, most_variables}
use Rattle.work_limits.proofs.PartUnits.{steps_over}

abbrev SwapOver : ℕ → SwapClauses → Type 0
SwapOver v x = All (HasVarsUpTo v) x.cnf.clauses

-- the clauses of one swap have variables of cells and fresh ones
next_over : (p : Bounded) (last v : ℕ) (x : SwapClauses) → IsNext p last x → length (cells_of p) ≤ v → x.cnf.vars ≤ v → SwapOver v x
next_over p last v x next cells most = from_each (HasVarsUpTo v) x.cnf.clauses (λ clause given. from_each (λ (l : Lit). l.var ≤ v) clause (λ l member.
    elim (next.variables l.var (record { clause = clause; literal = l; given = given; member = member; same = refl })) [
      | inl (cell, in_range, is) ↦ omega arith
      | inr fresh ↦ (let h = fresh.1 in omega arith)
    ]))

-- those of all swaps, one behind the other
numbered_over : (p : Bounded) (last v : ℕ) (xs : List SwapClauses) → AreNumbered p last xs → length (cells_of p) ≤ last → last + length xs * (length (cells_of p) + 1) ≤ v → All (SwapOver v) xs
numbered_over p last v [] numbered cells most = All-nil (SwapOver v)
numbered_over p last v (x ∷ xs) (next, later) cells most =
    let some = next.some in
    let few = next.few_variables in
    let rest : x.cnf.vars + length xs * (length (cells_of p) + 1) ≤ v = omega arith in
    All-cons (SwapOver v) x xs
    (next_over p last v x next (omega arith) (omega arith))
    (numbered_over p x.cnf.vars v xs later (omega arith) rest)

pub few_variables : (t : Translated) → IsTranslation t → IsFormula t.cnf → (terms : ℕ) → HasTerms t.problem terms → (pool : List Step) → HasVarsOf (all_clauses t) pool
    → AreOverFirst (most_variables (length (cells_of t.problem)) terms (length t.swaps)) t pool
few_variables t is formula terms has pool vars =
    let c = length (cells_of t.problem) in
    let v = most_variables c terms (length t.swaps) in
    let few : t.cnf.vars ≤ 2 * c + 2 + 16 * terms = (is.small terms has).variables in
    let cells : c ≤ t.cnf.vars = is.cells in
    let low : t.cnf.vars ≤ v = omega arith in
    let cnf : All (HasVarsUpTo v) t.cnf.clauses = All-weaker (HasVarsUpTo t.cnf.vars) (HasVarsUpTo v)
    (λ clause within. All-weaker (λ (l : Lit). l.var ≤ t.cnf.vars) (λ (l : Lit). l.var ≤ v) (λ l le. omega arith) clause within) t.cnf.clauses formula.within in
    let swaps : All (SwapOver v) t.swaps = numbered_over t.problem t.cnf.vars v t.swaps is.numbered cells (omega arith) in
    let every : All (HasVarsUpTo v) (all_clauses t) = All-append (HasVarsUpTo v) t.cnf.clauses (flat_map (λ (x : SwapClauses). x.cnf.clauses) t.swaps) cnf
    (from_each (HasVarsUpTo v) (flat_map (λ (x : SwapClauses). x.cnf.clauses) t.swaps) (λ clause there.
    let f = flat_has (λ (x : SwapClauses). x.cnf.clauses) t.swaps clause there in
    All-contains (HasVarsUpTo v) f.0.cnf.clauses clause (All-contains (SwapOver v) t.swaps f.0 swaps f.1) f.2)) in
    record {
      cells = omega arith;
      cnf = cnf;
      swaps = swaps;
      pool = steps_over v (all_clauses t) pool every vars;
    }
