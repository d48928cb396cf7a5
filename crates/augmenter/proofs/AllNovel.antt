-- Logs of searches whose steps are all novel.
use Rattle.std.proofs.Common.{◌≡◌, ◌≢◌, inl, inr, ◌≤◌, ◌+◌, ℕ, Bool, false, List, [], ◌∷◌, ◌++◌, map, take, length, get_or, All, Contains, IsTrue, refl, ap, subst, arith}
use Rattle.std.proofs.lemmas.List.{take-take}
use Rattle.std.proofs.lemmas.List.Elements.{All-append, All-map, All-take}
use Rattle.cnf_core.specs.declared.literal.Lit.{Lit}
use Rattle.cnf_core.specs.Valuation.{clause_value, Satisfies}
use Rattle.refutation_check.specs.declared.log.Step.{Step}
use Rattle.refutation_check.specs.Chain.{members_of, IsNovel, Subsumes, EachEntailed}
use Rattle.refutation_check.specs.SearchLog.{IsNovelButLast, IsAllNovel, HasNoEmpty}

subsumed_nil : (c clause : List Lit) → clause ≡ [] → Subsumes c clause → c ≡ []
subsumed_nil [] clause e s = refl
subsumed_nil (l ∷ c) clause e s =
    let here : Contains clause l = s 0 l (omega arith) in
    let none : Contains [] l = subst (λ (xs : List Lit). Contains xs l) e here in
    absurd (let k = none.1 in omega arith)

-- where no member is empty, an empty clause is novel
empty_is_novel : (members : List (List Lit)) (clause : List Lit) → clause ≡ [] → All (λ (c : List Lit). c ≢ []) members → IsNovel members clause
empty_is_novel members clause e none = λ k d l s. none k d l (subsumed_nil (get_or members k d) clause e s)

-- where no clause is empty that was given, and no step but the last, each step is novel
pub all_novel : (given : List (List Lit)) → All (λ (c : List Lit). c ≢ []) given → (log : List Step) → IsNovelButLast given log → (k : ℕ) → length log ≤ k + 1 → HasNoEmpty (take k log) → IsAllNovel given log
all_novel given some log novel k short earlier i s at = elim (novel i s at) [
  | inl is ↦ is
  | inr last ↦
      let before : HasNoEmpty (take i log) = subst HasNoEmpty (take-take i k log (let e = last.0 in omega arith)) (All-take (λ (s : Step). s.clause ≢ []) i (take k log) earlier) in
      empty_is_novel (members_of given (take i log)) s.clause last.1
      (All-append (λ (c : List Lit). c ≢ []) given (map (λ (s : Step). s.clause) (take i log)) some (All-map (λ (c : List Lit). c ≢ []) (λ (s : Step). s.clause) (take i log) before))
]

-- a clause that some valuation makes true is not empty
true_is_some : (v : ℕ → Bool) (c : List Lit) → IsTrue (clause_value v c) → c ≢ []
true_is_some v c t e = let f : clause_value v c ≡ false = ap (clause_value v) e in absurd cc

-- nor is any of the clauses of a formula that can be satisfied, of local ones that aren't, and of what the formula entails
pub none_empty : (clauses local : List (List Lit)) (pool : List Step) (v : ℕ → Bool) → Satisfies v clauses → All (λ (c : List Lit). c ≢ []) local → EachEntailed clauses pool →
    All (λ (c : List Lit). c ≢ []) (members_of (clauses ++ local) pool)
none_empty clauses local pool v satisfied some entailed =
    let Some' : List Lit → Type 0 = λ c. c ≢ [] in
    All-append Some' (clauses ++ local) (map (λ (s : Step). s.clause) pool)
    (All-append Some' clauses local (λ k d l. true_is_some v (get_or clauses k d) (satisfied k d l)) some)
    (All-map Some' (λ (s : Step). s.clause) pool (λ k d l. true_is_some v (get_or pool k d).clause (entailed k d l v satisfied)))
