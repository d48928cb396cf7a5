-- How many novel steps there are over some variables.
use Rattle.std.proofs.Common.{◌≡◌, ◌≢◌, ◌⊎◌, inl, inr, ◌≤◌, ◌+◌, ◌^◌, ◌++◌, [], ◌∷◌, ℕ, zero, suc, true, false, List, length, map, take, All, Contains, refl, sym, subst, arith, append-nil, append_assoc}
use Rattle.std.specs.Prelude.{if◌then◌else◌}
use Rattle.std.proofs.lemmas.Bool.{cases_Bool}
use Rattle.std.proofs.lemmas.List.Elements.{All-nil, All-cons, All-head, All-tail, All-contains, Contains-append_cases, Contains-append_left, Contains-append_right, Contains-push}
use Rattle.cnf_core.specs.declared.literal.Lit.{Lit}
use Rattle.cnf_core.specs.Literal.{IsClause, HasVarsUpTo}
use Rattle.refutation_check.specs.declared.log.Step.{Step}
use Rattle.refutation_check.specs.Chain.{Subsumes, IsNovel}
use Rattle.refutation_check.specs.SearchLog.{HasNoEmpty, IsAllNovel, is_novel, novel_steps}
use Rattle.refutation_check.proofs.Novelty.{novel_exact}
use Rattle.sat_core.specs.Limits.Over.{AreOver}
use Rattle.sat_core.proofs.Limits.ClauseCounts.{few}
use Rattle.translation_rules.proofs.Tests.{from_each}

-- the novel steps of a log that aren't empty: all that are novel, but for one
record Filled (vars : ℕ) (given : List (List Lit)) (log : List Step) : Type 0 where
  pub steps : List Step
  pub clauses : All (λ (s : Step). IsClause s.clause) steps
  pub over : AreOver vars steps
  pub novel : (known : List (List Lit)) → ((c : List Lit) → Contains known c → Contains given c) → IsAllNovel known steps
  pub filled : HasNoEmpty steps
  pub count : novel_steps given log ≤ length steps + 1
  pub none : Contains given [] → novel_steps given log ≡ 0

empty_or_not : (c : List Lit) → (c ≡ []) ⊎ (c ≢ [])
empty_or_not [] = inl refl
empty_or_not (l ∷ c) = inr (λ e. absurd (cc))

novel_first : (known : List (List Lit)) (s : Step) (steps : List Step) → IsNovel known s.clause → IsAllNovel (known ++ s.clause ∷ []) steps → IsAllNovel known (s ∷ steps)
novel_first known s steps first later zero t is =
    let same : s ≡ t = cc in
    subst (λ (x : Step). IsNovel (known ++ []) x.clause) same (subst (λ (cs : List (List Lit)). IsNovel cs s.clause) (sym (append-nil known)) first)
novel_first known s steps first later (suc i) t is =
    subst (λ (cs : List (List Lit)). IsNovel cs t.clause) (append_assoc known (s.clause ∷ []) (map (λ (x : Step). x.clause) (take i steps))) (later i t is)

module _ (vars : ℕ) (given : List (List Lit)) (s : Step) (log : List Step) (rest : Filled vars (given ++ s.clause ∷ []) log) where
  old_step : is_novel given s.clause ≡ false → Filled vars given (s ∷ log)
  old_step old = record {
    steps = rest.steps;
    clauses = rest.clauses;
    over = rest.over;
    novel = λ known within. rest.novel known (λ c h. Contains-append_left given (s.clause ∷ []) c (within c h));
    filled = rest.filled;
    count = subst (λ b. (if b then 1 else 0) + novel_steps (given ++ s.clause ∷ []) log ≤ length rest.steps + 1) (sym old) (let h = rest.count in omega arith);
    none = λ c. subst (λ b. (if b then 1 else 0) + novel_steps (given ++ s.clause ∷ []) log ≡ 0) (sym old) (let h = rest.none (Contains-append_left given (s.clause ∷ []) [] c) in omega arith);
  }

  no_empty : is_novel given s.clause ≡ true → Contains given [] → ⊥
  no_empty new c = All-contains (λ (other : List Lit). Subsumes other s.clause → ⊥) given [] ((novel_exact given s.clause).0 new) c (All-nil (Contains s.clause))

  empty_step : is_novel given s.clause ≡ true → s.clause ≡ [] → Filled vars given (s ∷ log)
  empty_step new e = record {
    steps = [];
    clauses = All-nil (λ (s : Step). IsClause s.clause);
    over = All-nil (λ (s : Step). HasVarsUpTo vars s.clause);
    novel = λ known within i t is. absurd (cc);
    filled = All-nil (λ (s : Step). s.clause ≢ []);
    count =
        let later : novel_steps (given ++ s.clause ∷ []) log ≡ 0 = rest.none (subst (Contains (given ++ s.clause ∷ [])) e (Contains-push given s.clause)) in
        subst (λ b. (if b then 1 else 0) + novel_steps (given ++ s.clause ∷ []) log ≤ 1) (sym new) (omega arith);
    none = λ c. absurd (no_empty new c);
  }

  new_step : is_novel given s.clause ≡ true → s.clause ≢ [] → IsClause s.clause → HasVarsUpTo vars s.clause → Filled vars given (s ∷ log)
  new_step new some clause over = record {
    steps = s ∷ rest.steps;
    clauses = All-cons (λ (s : Step). IsClause s.clause) s rest.steps clause rest.clauses;
    over = All-cons (λ (s : Step). HasVarsUpTo vars s.clause) s rest.steps over rest.over;
    novel = λ known within. novel_first known s rest.steps
        (from_each (λ (other : List Lit). Subsumes other s.clause → ⊥) known
        (λ c h. All-contains (λ (other : List Lit). Subsumes other s.clause → ⊥) given c ((novel_exact given s.clause).0 new) (within c h)))
        (rest.novel (known ++ s.clause ∷ []) (λ c h. elim (Contains-append_cases known (s.clause ∷ []) c h) [
          | inl old ↦ Contains-append_left given (s.clause ∷ []) c (within c old)
          | inr last ↦ Contains-append_right given (s.clause ∷ []) c last
        ]));
    filled = All-cons (λ (s : Step). s.clause ≢ []) s rest.steps some rest.filled;
    count =
        let later : novel_steps (given ++ s.clause ∷ []) log ≤ length rest.steps + 1 = rest.count in
        subst (λ b. (if b then 1 else 0) + novel_steps (given ++ s.clause ∷ []) log ≤ suc (length rest.steps) + 1) (sym new) (omega arith);
    none = λ c. absurd (no_empty new c);
  }

filled_of : (vars : ℕ) (given : List (List Lit)) (log : List Step) → All (λ (s : Step). IsClause s.clause) log → AreOver vars log → Filled vars given log
filled_of vars given [] clauses over = record {
  steps = [];
  clauses = clauses;
  over = over;
  novel = λ known within i t is. absurd (cc);
  filled = All-nil (λ (s : Step). s.clause ≢ []);
  count = omega arith;
  none = λ c. refl;
}
filled_of vars given (s ∷ log) clauses over =
    let rest = filled_of vars (given ++ s.clause ∷ []) log (All-tail (λ (s : Step). IsClause s.clause) s log clauses) (All-tail (λ (s : Step). HasVarsUpTo vars s.clause) s log over) in
    elim (cases_Bool (is_novel given s.clause)) [
      | inr old ↦ old_step vars given s log rest old
      | inl new ↦ elim (empty_or_not s.clause) [
        | inl e ↦ empty_step vars given s log rest new e
        | inr some ↦ new_step vars given s log rest new some (All-head (λ (s : Step). IsClause s.clause) s log clauses) (All-head (λ (s : Step). HasVarsUpTo vars s.clause) s log over)
      ]
    ]

-- however many steps a log has over so many variables, few of them are novel
pub few_novel : (vars : ℕ) (given : List (List Lit)) (log : List Step) → All (λ (s : Step). IsClause s.clause) log → AreOver vars log → novel_steps given log ≤ 3 ^ vars
few_novel vars given log clauses over =
    let f = filled_of vars given log clauses over in
    let less = few vars given f.steps f.clauses f.over (f.novel given (λ c h. h)) f.filled in
    let most = f.count in
    omega arith
