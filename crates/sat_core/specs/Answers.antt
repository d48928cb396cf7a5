-- What an answer of a search says of the clauses that it was asked for.
use Rattle.std.specs.Prelude.{◌≡◌, ◌≢◌, ◌<◌, ◌≤◌, ◌-◌, ◌^◌, ◌++◌, ◌∷◌, [], ℕ, Bool, List, All, length, take}
use Rattle.cnf_core.specs.declared.literal.Lit.{Lit}
use Rattle.cnf_core.specs.Literal.{HasVarsUpTo}
use Rattle.cnf_core.specs.Valuation.{Satisfies, value_of}
use Rattle.refutation_check.specs.declared.log.Step.{Step}
use Rattle.refutation_check.specs.Chain.{members_of, Names, EndsEmpty}
use Rattle.sat_trail.specs.Leaned.{Leaned}
use Rattle.refutation_check.specs.SearchLog.{IsSearchLog, HasNoEmpty, IsAllNovel}
use Rattle.sat_core.specs.declared.search.Answer.{Answer}
use Rattle.sat_core.specs.declared.search.Answer.TheVariants.{Found, Refuted, Spent}

-- the steps that led to the answer
abbrev pub log_of : Answer → List Step
log_of (Found valuation log) = log
log_of (Refuted log) = log
log_of (Spent log) = log

-- how many steps were learnt from conflicts: all but a refutation's last, the empty one, which propagation alone gives
abbrev pub learnt_in : Answer → ℕ
learnt_in (Found valuation log) = length log
learnt_in (Refuted log) = length log - 1
learnt_in (Spent log) = length log

-- a valuation that was found has few values
abbrev pub HasFewValues : Answer → Type 0
HasFewValues (Found valuation log) = length valuation < 2 ^ 31
HasFewValues (Refuted log) = Unit {0}
HasFewValues (Spent log) = Unit {0}

-- what is leant to behind an answer: the valuation that was found, or what was leant to before
abbrev pub leaned_behind : Answer → Leaned → Leaned
leaned_behind (Found valuation log) leaned = record leaned { values = valuation }
leaned_behind (Refuted log) leaned = leaned
leaned_behind (Spent log) leaned = leaned

-- the valuation has at least these variables and those of the clauses, and satisfies the clauses
pub record IsModel (vars : ℕ) (clauses : List (List Lit)) (valuation : List Bool) : Type 0 where
  pub enough : vars ≤ length valuation
  pub within : All (HasVarsUpTo (length valuation)) clauses
  pub satisfied : Satisfies (value_of valuation) clauses

-- the hint names a local clause of one literal, where the local clauses are numbered after so many clauses of a formula
pub record NamesUnit (clauses : ℕ) (local : List (List Lit)) (hint : ℕ) : Type 0 where
  pub literal : Lit
  pub after : clauses < hint
  pub named : Names local (hint - clauses) (literal ∷ [])

-- no hint of a step that is not empty names a local clause of one literal
abbrev pub NamesNoUnits : ℕ → List (List Lit) → List Step → Type 0
NamesNoUnits clauses local steps = All (λ s. s.clause ≢ [] → All (λ hint. ¬ NamesUnit clauses local hint) s.hints) steps

-- no step but the last is empty
abbrev pub HasEmptyOnlyLast : List Step → Type 0
HasEmptyOnlyLast steps = HasNoEmpty (take (length steps - 1) steps)

-- the clauses are satisfied, and no step is empty; or they can't be satisfied, and the last step is empty;
-- or the budget is spent on novel steps, none of them empty
abbrev pub IsRight : ℕ → List (List Lit) → List Step → ℕ → Answer → Type 0
IsRight vars clauses pool budget (Found valuation log) = IsModel vars clauses valuation × HasNoEmpty log
IsRight vars clauses pool budget (Refuted log) = EndsEmpty log × ((v : ℕ → Bool) → ¬ Satisfies v clauses)
IsRight vars clauses pool budget (Spent log) = (length log ≡ budget) × IsAllNovel (members_of clauses pool) log × HasNoEmpty log

-- where the budget is spent, the search was stopped: there is one more step
abbrev pub IsStopped : List (List Lit) → List Step → Answer → Type 0
IsStopped clauses pool (Found valuation log) = Unit {0}
IsStopped clauses pool (Refuted log) = Unit {0}
IsStopped clauses pool (Spent log) = (step : Step) × IsSearchLog (members_of clauses pool) (log ++ step ∷ [])
