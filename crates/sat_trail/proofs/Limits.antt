-- The highest variable of clauses.
use Rattle.std.proofs.Common.{◌≡◌, ◌<◌, ◌≤◌, ◌+◌, ◌-◌, ◌++◌, [], ℕ, List, length, get_or, take, map, All, arith, ap, ◌∙◌, subst, length-append}
use Rattle.std.proofs.Math.Seq.{get_or-append_right}
use Rattle.std.proofs.lemmas.List.{take_more, take_all, get_or-map, length-map}
use Rattle.std.proofs.lemmas.List.Elements.{All-append, All-push, All-weaker}
use Rattle.cnf_core.specs.declared.literal.Lit.{Lit}
use Rattle.cnf_core.specs.Literal.{HasVarsUpTo, IsClause}
use Rattle.refutation_check.specs.declared.log.Step.{Step}
use Rattle.refutation_check.specs.Chain.{members_of}
use Rattle.unit_propagation.proofs.Assignments.Trails.{All-front}
use Rattle.sat_trail.specs.Trailed.{IsVarLimit}

pub vars_weaker : (v w : ℕ) (lits : List Lit) → v ≤ w → HasVarsUpTo v lits → HasVarsUpTo w lits
vars_weaker v w lits le all k d h = let low : (get_or lits k d).var ≤ v = all k d h in omega arith

-- one more literal
pub vars_more : (v w : ℕ) (lits : List Lit) (i : ℕ) (d : Lit) → i < length lits → v ≤ w → HasVarsUpTo v (take i lits) → (get_or lits i d).var ≤ w → HasVarsUpTo w (take (i + 1) lits)
vars_more v w lits i d in' le all here = rw (take_more lits i d in') (All-push (λ l. l.var ≤ w) (take i lits) (get_or lits i d) (vars_weaker v w (take i lits) le all) here)

-- one more clause
pub clauses_more : (v w : ℕ) (clauses : List (List Lit)) (i : ℕ) (d : List Lit) → i < length clauses → v ≤ w → All (HasVarsUpTo v) (take i clauses) → HasVarsUpTo w (get_or clauses i d) → All (HasVarsUpTo w) (take (i + 1) clauses)
clauses_more v w clauses i d in' le all here =
    rw (take_more clauses i d in') (All-push (HasVarsUpTo w) (take i clauses) (get_or clauses i d) (All-weaker (HasVarsUpTo v) (HasVarsUpTo w) (λ c. vars_weaker v w c le) (take i clauses) all) here)

-- one more step
pub steps_more : (v w : ℕ) (steps : List Step) (i : ℕ) (d : Step) → i < length steps → v ≤ w → All (λ s. HasVarsUpTo v s.clause) (take i steps) → HasVarsUpTo w (get_or steps i d).clause → All (λ s. HasVarsUpTo w s.clause) (take (i + 1) steps)
steps_more v w steps i d in' le all here =
    rw (take_more steps i d in') (All-push (λ s. HasVarsUpTo w s.clause) (take i steps) (get_or steps i d) (All-weaker (λ s. HasVarsUpTo v s.clause) (λ s. HasVarsUpTo w s.clause) (λ s. vars_weaker v w s.clause le) (take i steps) all) here)

-- what is so of the clauses of steps
pub All-unmap : (P : List Lit → Type 0) (steps : List Step) → All P (map (λ s. s.clause) steps) → All (λ s. P s.clause) steps
All-unmap P steps all k d h =
    let long : length (map (λ (s : Step). s.clause) steps) ≡ length steps = length-map steps (λ (s : Step). s.clause) in
    let here : P (get_or (map (λ (s : Step). s.clause) steps) k []) = all k [] (omega (arith, h, long)) in
    subst P (get_or-map (λ (s : Step). s.clause) steps k d [] h) here

-- the variables of a clause are small
pub clause_small : (lits : List Lit) → IsClause lits → HasVarsUpTo 2147483647 lits
clause_small lits clause k d h = let both = clause.variables k d h in omega (arith, both.1)

-- all of them were seen
pub all_taken : {X : Type 0} → (P : X → Type 0) (xs : List X) (i : ℕ) → length xs ≤ i → All P (take i xs) → All P xs
all_taken P xs i h all = subst (All P) (take_all i xs h) all

pub All-rear : {X : Type 0} → (P : X → Type 0) (xs ys : List X) → All P (xs ++ ys) → All P ys
All-rear P xs ys all k d h =
    let n : ℕ = length xs + k in
    let there : P (get_or (xs ++ ys) n d) = all n d (omega (arith, h, length-append xs ys)) in
    let back : n - length xs ≡ k = omega arith in
    subst P (get_or-append_right xs ys n d (omega arith) ∙ ap (λ (j : ℕ). get_or ys j d) back) there

-- the highest variable of all clauses that a trail begins with
pub limit_of : (first middle last : ℕ) (clauses local : List (List Lit)) (steps : List Step) → All (HasVarsUpTo first) clauses → IsVarLimit first local middle → IsVarLimit middle (map (λ s. s.clause) steps) last → IsVarLimit first (members_of (clauses ++ local) steps) last
limit_of first middle last clauses local steps within one two =
    let derived : List (List Lit) = map (λ (s : Step). s.clause) steps in
    let low : (a : ℕ) (xs : List (List Lit)) → a ≤ last → All (HasVarsUpTo a) xs → All (HasVarsUpTo last) xs = λ a xs le all. All-weaker (HasVarsUpTo a) (HasVarsUpTo last) (λ c. vars_weaker a last c le) xs all in
    record {
      at_least = omega (arith, one.at_least, two.at_least);
      within = All-append (HasVarsUpTo last) (clauses ++ local) derived (All-append (HasVarsUpTo last) clauses local (low first clauses (omega (arith, one.at_least, two.at_least)) within) (low middle local two.at_least one.within)) two.within;
      least = λ n h all. two.least n (one.least n h (All-rear (HasVarsUpTo n) clauses local (All-front (HasVarsUpTo n) (clauses ++ local) derived all))) (All-rear (HasVarsUpTo n) (clauses ++ local) derived all);
    }
