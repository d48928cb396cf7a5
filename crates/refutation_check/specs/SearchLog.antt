-- What the log of a search is, over the clauses that were given.
use Rattle.std.specs.Prelude.{◌≡◌, ◌≢◌, ◌==◌, ◌+◌, ◌&&◌, ◌⊎◌, ◌++◌, ◌∷◌, [], ℕ, Bool, not, List, All, Contains, Some, length, take, slice_get, if◌then◌else◌}
use Rattle.std.specs.List.{list_any, list_all}
use Rattle.cnf_core.specs.declared.literal.Lit.{Lit}
use Rattle.refutation_check.specs.declared.log.Step.{Step}
use Rattle.refutation_check.specs.Chain.{members_of, IsAccepted, IsChain, IsNovel, IsNovelAt}

-- some clause has a literal of this variable
pub record IsVarOf (clauses : List (List Lit)) (var : ℕ) : Type 0 where
  pub clause : List Lit
  pub literal : Lit
  pub given : Contains clauses clause
  pub member : Contains clause literal
  pub same : literal.var ≡ var

-- each step has only variables of these clauses
abbrev pub HasVarsOf : List (List Lit) → List Step → Type 0
HasVarsOf clauses steps = All (λ s. All (λ l. IsVarOf clauses l.var) s.clause) steps

-- no step is empty
abbrev pub HasNoEmpty : List Step → Type 0
HasNoEmpty steps = All (λ s. s.clause ≢ []) steps

-- each step contains no clause of the given ones and of no earlier step
abbrev pub IsAllNovel : List (List Lit) → List Step → Type 0
IsAllNovel clauses steps = (i : ℕ) → IsNovelAt clauses steps i

-- each step is novel, save that a last one may be empty and not novel
abbrev pub IsNovelButLast : List (List Lit) → List Step → Type 0
IsNovelButLast clauses steps =
    (i : ℕ) (s : Step) → slice_get steps i ≡ Some s → IsNovel (members_of clauses (take i steps)) s.clause ⊎ ((i + 1 ≡ length steps) × (s.clause ≡ []))

-- there is no step, or an empty one alone
abbrev pub IsDirect : List Step → Type 0
IsDirect steps = (steps ≡ []) ⊎ ((s : Step) × (steps ≡ s ∷ []) × (s.clause ≡ []))

-- each step is a chain over the given clauses and the earlier steps, has only their variables, and is novel, save that
-- a last one may be empty; where the empty clause is a chain over the given clauses, there is no step but an empty one
pub record IsSearchLog (given : List (List Lit)) (log : List Step) : Type 0 where
  pub accepted : IsAccepted given log
  pub vars : HasVarsOf given log
  pub novel : IsNovelButLast given log
  pub direct : (hints : List ℕ) → IsChain given [] hints → IsDirect log

-- whether the two are one literal
abbrev pub is_literal : Lit → Lit → Bool
is_literal a b = (a.var == b.var) && (if a.positive then b.positive else not b.positive)

-- whether each literal of the first clause stands in the second
abbrev pub subsumes : List Lit → List Lit → Bool
subsumes clause other = list_all (λ l. list_any (is_literal l) other) clause

-- whether the clause contains none of these
abbrev pub is_novel : List (List Lit) → List Lit → Bool
is_novel members clause = list_all (λ other. not (subsumes other clause)) members

-- how many steps contain no clause of the given ones and of no earlier step
abbrev pub novel_steps : List (List Lit) → List Step → ℕ
novel_steps given [] = 0
novel_steps given (s ∷ steps) = (if is_novel given s.clause then 1 else 0) + novel_steps (given ++ s.clause ∷ []) steps
