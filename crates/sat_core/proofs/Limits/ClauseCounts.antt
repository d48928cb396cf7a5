-- How many clauses there are over some variables.
use Rattle.std.proofs.Common.{◌≡◌, ◌≢◌, ◌<◌, ◌≤◌, ◌+◌, ◌^◌, ◌++◌, [], ◌∷◌, inl, inr, ℕ, zero, suc, Bool, true, false, List, length, map, take, append-nil, append_assoc, All, AllPairs, Contains, length-append, refl, sym, ap, ◌∙◌, subst, arith}
use Rattle.std.specs.Prelude.{remove}
use Rattle.std.proofs.lemmas.Bool.{cases_order}
use Rattle.std.proofs.lemmas.List.{length-map}
use Rattle.std.proofs.lemmas.List.Elements.{All-nil, All-cons, All-head, All-tail, All-contains, All-contains_itself, Contains-append_cases, Contains-append_left, Contains-append_right, Contains-push_cases}
use Rattle.std.proofs.lemmas.List.Kept.{AllPairs-cons}
use Rattle.std.proofs.lemmas.List.Sorted.{IsPermutation-remove, Contains-permutation, length_permutation}
use Rattle.std.proofs.Math.Nat.{pow-suc}
use Rattle.cnf_core.specs.declared.literal.Lit.{Lit}
use Rattle.cnf_core.specs.Literal.{IsClause, HasVarsUpTo}
use Rattle.refutation_check.specs.declared.log.Step.{Step}
use Rattle.refutation_check.specs.Chain.{Subsumes, IsNovel}
use Rattle.refutation_check.specs.SearchLog.{HasNoEmpty, IsAllNovel}
use Rattle.sat_core.specs.Limits.Over.{AreOver}

abbrev lit : Bool → ℕ → Lit
lit sign var = record { var = var; positive = sign }

-- all clauses over so many variables from this one on
clauses_from : ℕ → ℕ → List (List Lit)
clauses_from first zero = [] ∷ []
clauses_from first (suc n) =
    clauses_from (suc first) n ++ (map (λ (c : List Lit). lit true first ∷ c) (clauses_from (suc first) n) ++ map (λ (c : List Lit). lit false first ∷ c) (clauses_from (suc first) n))

so_many : (first n : ℕ) → length (clauses_from first n) ≡ 3 ^ n
unfolding clauses_from
so_many first zero = refl
so_many first (suc n) =
    let later = clauses_from (suc first) n in
    let with_sign : Bool → List (List Lit) = λ (b : Bool). map (λ (c : List Lit). lit b first ∷ c) later in
    omega (arith, so_many (suc first) n, pow-suc 3 n, length-append later (with_sign true ++ with_sign false), length-append (with_sign true) (with_sign false), length-map later (λ (c : List Lit). lit true first ∷ c), length-map later (λ (c : List Lit). lit false first ∷ c))

has_map : {X Y : Type 0} (f : X → Y) (xs : List X) (x : X) → Contains xs x → Contains (map f xs) (f x)
has_map f [] x (k, l, e) = absurd (omega (arith, l))
has_map f (y ∷ ys) x (zero, l, e) = (zero, omega arith, ap f e)
has_map f (y ∷ ys) x (suc k, l, e) =
    let later = has_map f ys x (k, omega (arith, l), e) in
    (suc later.0, omega (arith, later.1), later.2)

abbrev Rising : List Lit → Type 0
Rising c = AllPairs (λ a b. a.var < b.var) c

rest_rises : (l : Lit) (c : List Lit) → Rising (l ∷ c) → Rising c
rest_rises l c rising i j d e k = rising (suc i) (suc j) d (omega (arith, e)) (omega (arith, k))

above_first : (l : Lit) (c : List Lit) → Rising (l ∷ c) → All (λ (m : Lit). l.var < m.var) c
above_first l c rising k d e = rising zero (suc k) d (omega arith) (omega (arith, e))

above : (bound : ℕ) (l : Lit) (c : List Lit) → Rising (l ∷ c) → bound ≤ l.var → All (λ (m : Lit). suc bound ≤ m.var) c
above bound l c rising least k d e = let up = above_first l c rising k d e in omega (arith, up, least)

-- each clause over these variables is among them
has_all : (first n : ℕ) (c : List Lit) → Rising c → All (λ (l : Lit). first ≤ l.var) c → All (λ (l : Lit). l.var < first + n) c → Contains (clauses_from first n) c
unfolding clauses_from
has_all first zero [] rising least most = (zero, omega arith, refl)
has_all first zero (l ∷ c) rising least most = absurd (let a = least zero l (omega arith) in let b = most zero l (omega arith) in omega (arith, a, b))
has_all first (suc n) [] rising least most =
    Contains-append_left (clauses_from (suc first) n) _ [] (has_all (suc first) n [] rising (All-nil (λ (l : Lit). suc first ≤ l.var)) (All-nil (λ (l : Lit). l.var < suc first + n)))
has_all first (suc n) (l ∷ c) rising least most =
    let later = clauses_from (suc first) n in
    let from : first ≤ l.var = least zero l (omega arith) in
    let to : l.var < first + suc n = most zero l (omega arith) in
    elim (cases_order first l.var) [
      | inl same ↦
          let down : All (λ (m : Lit). m.var < suc first + n) c = λ k d e. let m = most (suc k) d (omega (arith, e)) in omega (arith, m) in
          let there = has_all (suc first) n c (rest_rises l c rising) (above first l c rising from) down in
          let signed : (b : Bool) → l.positive ≡ b → lit b first ≡ l = λ b e i. record { var = same i; positive = sym e i } in
          let by_sign : (b : Bool) → l.positive ≡ b → Contains (clauses_from first (suc n)) (l ∷ c) =
          λ b. elim b as (λ b. l.positive ≡ b → Contains (clauses_from first (suc n)) (l ∷ c)) [
            | true ↦ λ e. Contains-append_right later _ (l ∷ c) (Contains-append_left (map (λ (x : List Lit). lit true first ∷ x) later) _ (l ∷ c)
                (subst (λ (h : Lit). Contains (map (λ (x : List Lit). lit true first ∷ x) later) (h ∷ c)) (signed true e) (has_map (λ (x : List Lit). lit true first ∷ x) later c there)))
            | false ↦ λ e. Contains-append_right later _ (l ∷ c) (Contains-append_right (map (λ (x : List Lit). lit true first ∷ x) later) _ (l ∷ c)
                (subst (λ (h : Lit). Contains (map (λ (x : List Lit). lit false first ∷ x) later) (h ∷ c)) (signed false e) (has_map (λ (x : List Lit). lit false first ∷ x) later c there)))
          ] in
          by_sign l.positive refl
      | inr (inl less) ↦
          let up : All (λ (m : Lit). suc first ≤ m.var) (l ∷ c) = All-cons (λ (m : Lit). suc first ≤ m.var) l c less (above first l c rising from) in
          let down : All (λ (m : Lit). m.var < suc first + n) (l ∷ c) = λ k d e. let m = most k d e in omega (arith, m) in
          Contains-append_left later _ (l ∷ c) (has_all (suc first) n (l ∷ c) rising up down)
      | inr (inr more) ↦ absurd (omega (arith, more, from))
    ]

-- a list with no element twice is no longer than one that has its elements
fewer : {X : Type 0} (xs ys : List X) → AllPairs (λ x y. x ≢ y) xs → ((x : X) → Contains xs x → Contains ys x) → length xs ≤ length ys
fewer [] ys differ has = omega arith
fewer (x ∷ xs) ys differ has =
    let at = has x (zero, omega arith, refl) in
    let rest = remove ys at.0 in
    let moved = IsPermutation-remove ys at.0 x at.1 (sym at.2) in
    let less = fewer xs rest (λ i j e p q. differ (suc i) (suc j) e (omega arith) (omega arith)) (λ y c.
    elim (Contains-append_cases (x ∷ []) rest y (Contains-permutation ys (x ∷ rest) y moved (has y (Contains-append_right (x ∷ []) xs y c)))) [
      | inl first ↦ absurd (elim (Contains-push_cases [] x y first) [ inl none ↦ (let l = none.1 in omega arith) | inr same ↦ differ zero (suc c.0) y (omega arith) (let l = c.1 in omega arith) (same ∙ sym c.2) ])
      | inr later ↦ later
    ]) in
    let long = length_permutation ys (x ∷ rest) moved in
    omega arith

abbrev clauses_of : List Step → List (List Lit)
clauses_of log = map (λ (s : Step). s.clause) log

first_novel : (given : List (List Lit)) (s : Step) (log : List Step) → IsAllNovel given (s ∷ log) → IsNovel given s.clause
first_novel given s log novel = subst (λ (cs : List (List Lit)). IsNovel cs s.clause) (append-nil given) (novel 0 s refl)

rest_novel : (given : List (List Lit)) (s : Step) (log : List Step) → IsAllNovel given (s ∷ log) → IsAllNovel (given ++ s.clause ∷ []) log
rest_novel given s log novel i t is = subst (λ (cs : List (List Lit)). IsNovel cs t.clause) (sym (append_assoc given (s.clause ∷ []) (clauses_of (take i log)))) (novel (suc i) t is)

-- novel steps have another clause than each of these, and than each other
apart : (given : List (List Lit)) (c : List Lit) (log : List Step) → Contains given c → IsAllNovel given log → All (λ x. c ≢ x) (clauses_of log)
apart given c [] there novel = All-nil (λ x. c ≢ x)
apart given c (s ∷ log) there novel = All-cons (λ x. c ≢ x) s.clause (clauses_of log)
    (λ same. first_novel given s log novel there.0 c there.1 (subst (λ (x : List Lit). Subsumes x s.clause) (sym (there.2 ∙ same)) (All-contains_itself s.clause)))
    (apart (given ++ s.clause ∷ []) c log (Contains-append_left given (s.clause ∷ []) c there) (rest_novel given s log novel))

different : (given : List (List Lit)) (log : List Step) → IsAllNovel given log → AllPairs (λ x y. x ≢ y) (clauses_of log)
different given [] novel = λ i j d less long. absurd (omega (arith, long))
different given (s ∷ log) novel =
    let more = given ++ s.clause ∷ [] in
    let rest = rest_novel given s log novel in
    AllPairs-cons (λ x y. x ≢ y) s.clause (clauses_of log) (apart more s.clause log (Contains-append_right given (s.clause ∷ []) s.clause (zero, omega arith, refl)) rest) (different more log rest)

not_empty : (log : List Step) → HasNoEmpty log → All (λ x. [] ≢ x) (clauses_of log)
not_empty [] none = All-nil (λ x. [] ≢ x)
not_empty (s ∷ log) none = All-cons (λ x. [] ≢ x) s.clause (clauses_of log) (λ same. All-head (λ (s : Step). s.clause ≢ []) s log none (sym same)) (not_empty log (All-tail (λ (s : Step). s.clause ≢ []) s log none))

among : (vars : ℕ) (log : List Step) → All (λ (s : Step). IsClause s.clause) log → AreOver vars log → All (Contains (clauses_from 1 vars)) (clauses_of log)
among vars [] each over = All-nil (Contains (clauses_from 1 vars))
among vars (s ∷ log) each over =
    let clause : IsClause s.clause = All-head (λ (s : Step). IsClause s.clause) s log each in
    let most : HasVarsUpTo vars s.clause = All-head (λ (s : Step). HasVarsUpTo vars s.clause) s log over in
    All-cons (Contains (clauses_from 1 vars)) s.clause (clauses_of log)
    (has_all 1 vars s.clause clause.rising (λ k d e. (clause.variables k d e).0) (λ k d e. let m = most k d e in omega (arith, m)))
    (among vars log (All-tail (λ (s : Step). IsClause s.clause) s log each) (All-tail (λ (s : Step). HasVarsUpTo vars s.clause) s log over))

pub few : (vars : ℕ) (given : List (List Lit)) (log : List Step) → All (λ (s : Step). IsClause s.clause) log → AreOver vars log → IsAllNovel given log → HasNoEmpty log → length log < 3 ^ vars
few vars given log each over novel none =
    let all = [] ∷ clauses_of log in
    let has_empty : Contains (clauses_from 1 vars) [] = has_all 1 vars [] (λ i j d less long. absurd (omega (arith, long))) (All-nil (λ (l : Lit). 1 ≤ l.var)) (All-nil (λ (l : Lit). l.var < 1 + vars)) in
    let has : All (Contains (clauses_from 1 vars)) all = All-cons (Contains (clauses_from 1 vars)) [] (clauses_of log) has_empty (among vars log each over) in
    let differ : AllPairs (λ x y. x ≢ y) all = AllPairs-cons (λ x y. x ≢ y) [] (clauses_of log) (not_empty log none) (different given log novel) in
    let count = fewer all (clauses_from 1 vars) differ (λ x there. All-contains (Contains (clauses_from 1 vars)) all x has there) in
    omega (arith, count, so_many 1 vars, length-map log (λ (s : Step). s.clause))
