-- The largest variable of what a proof text says.
use Rattle.std.proofs.Common.{◌≡◌, ◌≤◌, ◌<◌, ◌+◌, ◌++◌, ℕ, Result, Ok, Err, IfOk, List, [], ◌∷◌, length, map, max, subst, sym, arith}
use Rattle.std.specs.Prelude.{All}
use Rattle.std.specs.List.{AllZip}
use Rattle.std.proofs.lemmas.List.Elements.{All-nil, All-cons, All-head, All-tail, All-append, All-weaker}
use Rattle.cnf_core.specs.declared.literal.Lit.{Lit}
use Rattle.cnf_core.specs.Formula.{Formula}
use Rattle.cnf_core.specs.Literal.{IsVariable, IsClause, HasVarsUpTo}
use Rattle.refutation_check.specs.declared.log.Step.{Step}
use Rattle.refutation_check.specs.Chain.{members_of}
use Rattle.refutation_check.specs.ProofText.{IsNumber, number_of, SaysClause, SaysStep, Says, IsProofText, largest_of, largest_in}
use Rattle.refutation_check.specs.WrittenProof.{HasHintsInRange}
use Rattle.refutation_check.proofs.ReadProgress.{number_from_one}
use Rattle.refutation_check.specs.Progress.{Progress, IsProgress}

HasClauses : List (List Lit) → Type 0
HasClauses clauses = All IsClause clauses

clauses_said : (lines : List (List (List ℕ))) (clauses : List (List Lit)) → AllZip SaysClause lines clauses → HasClauses clauses
unfolding HasClauses
clauses_said [] [] zip = All-nil IsClause
clauses_said [] (c ∷ clauses) zip = absurd zip
clauses_said (l ∷ lines) [] zip = All-nil IsClause
clauses_said (l ∷ lines) (c ∷ clauses) zip = All-cons IsClause c clauses zip.0.said.is_clause (clauses_said lines clauses zip.1)

steps_said : (lines : List (List (List ℕ))) (steps : List Step) → AllZip SaysStep lines steps → HasClauses (map (λ (s : Step). s.clause) steps)
unfolding HasClauses
steps_said [] [] zip = All-nil IsClause
steps_said [] (s ∷ steps) zip = absurd zip
steps_said (l ∷ lines) [] zip = All-nil IsClause
steps_said (l ∷ lines) (s ∷ steps) zip = All-cons IsClause s.clause (map (λ (s : Step). s.clause) steps) zip.0.said.is_clause (steps_said lines steps zip.1)

pub members_are_clauses : (ls : List (List ℕ)) (clauses : List (List Lit)) (log : List Step) → Says ls clauses log → All IsClause (members_of clauses log)
unfolding HasClauses
members_are_clauses ls clauses log says =
    All-append IsClause clauses (map (λ (s : Step). s.clause) log) (clauses_said says.clause_lines clauses says.each_clause) (steps_said says.step_lines log says.each_step)

pub clauses_are : (p : Progress) {ls : List (List ℕ)} → IsProgress ls p → All IsClause p.clauses
unfolding HasClauses
clauses_are p {ls} is = clauses_said is.says.clause_lines p.clauses is.says.each_clause

Variables : List Lit → Type 0
Variables lits = All (λ l. IsVariable l.var) lits

largest_small : (lits : List Lit) → Variables lits → largest_of lits ≤ 2147483647
unfolding Variables
largest_small [] all = omega arith
largest_small (l ∷ lits) all =
    let first = (All-head (λ l. IsVariable l.var) l lits all).1 in
    let rest = largest_small lits (All-tail (λ l. IsVariable l.var) l lits all) in
    grind arith

largest_in_small : (clauses : List (List Lit)) → HasClauses clauses → largest_in clauses ≤ 2147483647
unfolding HasClauses Variables
largest_in_small [] all = omega arith
largest_in_small (c ∷ clauses) all =
    let first = largest_small c (All-head IsClause c clauses all).variables in
    let rest = largest_in_small clauses (All-tail IsClause c clauses all) in
    grind arith

pub vars_small : (p : Progress) {ls : List (List ℕ)} → IsProgress ls p → p.vars ≤ 2147483647
unfolding HasClauses
vars_small p {ls} is = subst (λ (n : ℕ). n ≤ 2147483647) (sym is.vars) (largest_in_small (members_of p.clauses p.log) (members_are_clauses ls p.clauses p.log is.says))

UpTo : ℕ → List Lit → Type 0
UpTo n lits = All (λ l. l.var ≤ n) lits

up_to_largest : (lits : List Lit) (n : ℕ) → largest_of lits ≤ n → UpTo n lits
unfolding UpTo
up_to_largest [] n few = All-nil (λ l. l.var ≤ n)
up_to_largest (l ∷ lits) n few =
    let first : l.var ≤ n = grind arith in
    let rest : largest_of lits ≤ n = grind arith in
    All-cons (λ l. l.var ≤ n) l lits first (up_to_largest lits n rest)

-- each variable is at most the largest one
pub all_up_to_largest : (clauses : List (List Lit)) (n : ℕ) → largest_in clauses ≤ n → All (HasVarsUpTo n) clauses
unfolding UpTo
all_up_to_largest [] n few = All-nil (HasVarsUpTo n)
all_up_to_largest (c ∷ clauses) n few =
    let first : largest_of c ≤ n = grind arith in
    let rest : largest_in clauses ≤ n = grind arith in
    All-cons (HasVarsUpTo n) c clauses (up_to_largest c n first) (all_up_to_largest clauses n rest)

pub largest_of_front : (clauses others : List (List Lit)) → largest_in clauses ≤ largest_in (clauses ++ others)
largest_of_front [] others = omega arith
largest_of_front (c ∷ clauses) others = let rest = largest_of_front clauses others in grind arith

pub vars_within : (p : Progress) {ls : List (List ℕ)} → IsProgress ls p → All (HasVarsUpTo p.vars) p.clauses
vars_within p {ls} is =
    all_up_to_largest p.clauses p.vars (subst (λ (n : ℕ). largest_in p.clauses ≤ n) (sym is.vars) (largest_of_front p.clauses (map (λ (s : Step). s.clause) p.log)))

-- ---- what can be done with what was read

pub if_ok : {X E : Type 0} (r : Result X E) {P Q : X → Type 0} → ((x : X) → P x → Q x) → IfOk r P → IfOk r Q
if_ok (Ok x) f p = f x p
if_ok (Err e) f p = tt

largest_of_back : (clauses others : List (List Lit)) → largest_in others ≤ largest_in (clauses ++ others)
largest_of_back [] others = omega arith
largest_of_back (c ∷ clauses) others = let rest = largest_of_back clauses others in grind arith

steps_up_to : (n : ℕ) (steps : List Step) → All (HasVarsUpTo n) (map (λ (s : Step). s.clause) steps) → All (λ s. HasVarsUpTo n s.clause) steps
steps_up_to n [] all = All-nil (λ s. HasVarsUpTo n s.clause)
steps_up_to n (s ∷ steps) all =
    All-cons (λ s. HasVarsUpTo n s.clause) s steps (All-head (HasVarsUpTo n) s.clause (map (λ (s : Step). s.clause) steps) all)
    (steps_up_to n steps (All-tail (HasVarsUpTo n) s.clause (map (λ (s : Step). s.clause) steps) all))

pub steps_within : (bytes : List ℕ) (f : Formula) (log : List Step) → IsProofText bytes f log → All (λ s. HasVarsUpTo f.vars s.clause) log
steps_within bytes f log is =
    steps_up_to f.vars log (all_up_to_largest (map (λ (s : Step). s.clause) log) f.vars
    (subst (λ (n : ℕ). largest_in (map (λ (s : Step). s.clause) log) ≤ n) (sym is.vars) (largest_of_back f.clauses (map (λ (s : Step). s.clause) log))))

InRange : ℕ → Type 0
InRange hint = (1 ≤ hint) × (hint ≤ 2147483647)

numbers_in_range : (hints : List (List ℕ)) → All IsNumber hints → All (λ word. number_of word ≤ 2147483647) hints → All InRange (map number_of hints)
unfolding InRange
numbers_in_range [] all small = All-nil InRange
numbers_in_range (h ∷ hints) all small =
    All-cons InRange (number_of h) (map number_of hints) (number_from_one h (All-head IsNumber h hints all), All-head (λ word. number_of word ≤ 2147483647) h hints small)
    (numbers_in_range hints (All-tail IsNumber h hints all) (All-tail (λ word. number_of word ≤ 2147483647) h hints small))

steps_in_range : (lines : List (List (List ℕ))) (steps : List Step) → AllZip SaysStep lines steps → HasHintsInRange steps
unfolding InRange
steps_in_range [] [] zip = All-nil (λ s. All InRange s.hints)
steps_in_range [] (s ∷ steps) zip = absurd zip
steps_in_range (l ∷ lines) [] zip = All-nil (λ s. All InRange s.hints)
steps_in_range (l ∷ lines) (s ∷ steps) zip =
    let says = zip.0 in
    All-cons (λ s. All InRange s.hints) s steps (subst (λ (hs : List ℕ). All InRange hs) (sym says.numbers) (numbers_in_range says.hints says.line.each_hint says.small.numbers))
    (steps_in_range lines steps zip.1)

pub hints_in_range : (bytes : List ℕ) (f : Formula) (log : List Step) → IsProofText bytes f log → HasHintsInRange log
hints_in_range bytes f log is = steps_in_range is.says.step_lines log is.says.each_step
