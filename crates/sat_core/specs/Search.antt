-- What holds while a search goes on.
use Rattle.std.specs.Prelude.{◌≡◌, ◌≢◌, ◌++◌, ◌∷◌, All, ◌≤◌, ◌<◌, [], ℕ, Bool, not, List, Contains, length, take, slice_index_or, ◌+◌, ◌^◌}
use Rattle.cnf_core.specs.declared.literal.Lit.{Lit}
use Rattle.cnf_core.specs.Literal.{HasVarsUpTo, IsClause}
use Rattle.cnf_core.specs.Formula.{Formula}
use Rattle.refutation_check.specs.declared.log.Step.{Step}
use Rattle.refutation_check.specs.Chain.{members_of, IsAccepted, IsChain, IsNovel, Refutes}
use Rattle.refutation_check.specs.SearchLog.{IsSearchLog, IsVarOf, HasVarsOf, HasNoEmpty, IsAllNovel}
use Rattle.unit_propagation.specs.Assignments.Trail.{IsTrail, falses_of}
use Rattle.sat_trail.specs.Trailed.{Trailed}
use Rattle.sat_trail.specs.Closed.{IsClosed, IsClosedBelow}
use Rattle.sat_trail.specs.Deciding.{HasAllValues}
use Rattle.sat_trail.specs.Learnt.{IsAsserting}
use Rattle.sat_core.specs.Answers.{log_of, HasEmptyOnlyLast, HasFewValues, IsRight, IsStopped, NamesNoUnits}
use Rattle.sat_core.specs.Assuming.{AreTrue, IsAssumedFirst, IsClash}
use Rattle.sat_core.specs.Lent.{IsLearnt}
use Rattle.sat_core.specs.declared.search.Answer.{Answer}
use Rattle.sat_core.specs.declared.deciding.DeadEnd.{DeadEnd}
use Rattle.sat_core.specs.declared.deciding.DeadEnd.TheVariants.{Conflict, Clash}

-- the variable is one of the trail
abbrev pub IsVarIn : ℕ → Lit → Type 0
IsVarIn vars l = (1 ≤ l.var) × (l.var ≤ vars)

-- the trail has the clauses and the steps, was closed before each decision, and has the assumed literals first
pub record Searching (clauses : List (List Lit)) (vars : ℕ) (assumed : List Lit) (depth : ℕ) (trail : Trailed) (log : List Step) : Type 0 where
  pub clauses_are : trail.clauses ≡ members_of clauses log
  pub vars_are : trail.vars ≡ vars
  pub in_range : All (IsVarIn vars) assumed
  pub closed_below : IsClosedBelow trail.clauses trail.assigned
  pub assumed_first : IsAssumedFirst assumed depth trail.assigned
  pub learnt : IsLearnt clauses assumed log

-- every clause is decided: nothing is left for propagation, and each variable has a value
pub record IsFull (trail : Trailed) : Type 0 where
  pub closed : IsClosed trail.clauses (falses_of trail.assigned)
  pub valued : HasAllValues trail.vars (falses_of trail.assigned)

-- a clause is falsified, and the trail was closed before each decision, and before some with each assumed literal true
pub record IsStuck (assumed : List Lit) (trail : Trailed) (conflict : ℕ) : Type 0 where
  pub refuted : Refutes trail.clauses (falses_of trail.assigned) conflict
  pub closed_below : IsClosedBelow trail.clauses trail.assigned
  pub place : ℕ
  pub closed : IsClosed trail.clauses (falses_of (take place trail.assigned))
  pub assumed_true : AreTrue (falses_of (take place trail.assigned)) assumed

-- why a descent can't go on
abbrev pub IsDeadEnd : List Lit → Trailed → DeadEnd → Type 0
IsDeadEnd assumed trail (Conflict number) = IsStuck assumed trail number
IsDeadEnd assumed trail Clash = IsClash trail.clauses assumed

-- nothing is left for propagation, the trail was closed before each decision, and the assumed literals before this place are true
pub record IsAssumedTo (assumed : List Lit) (place depth : ℕ) (trail : Trailed) : Type 0 where
  pub ordered : IsTrail trail.clauses trail.assigned
  pub closed : IsClosed trail.clauses (falses_of trail.assigned)
  pub closed_below : IsClosedBelow trail.clauses trail.assigned
  pub first : IsAssumedFirst assumed depth trail.assigned
  pub so_far : AreTrue (falses_of trail.assigned) (take place assumed)

-- the literal that each value makes false is false
abbrev pub AreValues : List Lit → List Bool → Type 0
AreValues falses values = (k : ℕ) (d : Bool) → k < length values → Contains falses (record { var = k + 1; positive = not (slice_index_or values k d) })

-- the values are those of a full trail in which all that is assumed is true
pub record IsFound (trail : Trailed) (assumed : List Lit) (valuation : List Bool) : Type 0 where
  pub full : IsFull trail
  pub is_true : AreTrue (falses_of trail.assigned) assumed
  pub each : All IsClause trail.clauses
  pub within : All (HasVarsUpTo trail.vars) trail.clauses
  pub long : length valuation ≡ trail.vars
  pub small : trail.vars < 2 ^ 31
  pub values : AreValues (falses_of trail.assigned) valuation

-- the step is a chain over the trail's clauses with only their variables, novel and not empty; one of its literals was made false at
-- the newest of the levels at which they were
pub record IsNext (trail : Trailed) (step : Step) : Type 0 where
  pub chain : IsChain trail.clauses step.clause step.hints
  pub vars_of : All (λ l. IsVarOf trail.clauses l.var) step.clause
  pub within : HasVarsUpTo trail.vars step.clause
  pub not_empty : step.clause ≢ []
  pub novel : IsNovel trail.clauses step.clause
  pub asserting : IsAsserting trail.assigned step.clause

-- the trail has the step's clause too, went back, and was closed before each decision that stays
pub record HasNext (old : Trailed) (step : Step) (new : Trailed) : Type 0 where
  pub vars : new.vars ≡ old.vars
  pub clauses : new.clauses ≡ old.clauses ++ step.clause ∷ []
  pub closed_below : IsClosedBelow new.clauses new.assigned
  pub count : ℕ
  pub stays : new.assigned ≡ take count old.assigned

-- the steps so far are as those of an answer have to be, over all the given clauses, of which the local ones come after so many of a
-- formula; and none is empty
pub record IsSoFar (given local : List (List Lit)) (clauses : ℕ) (log : List Step) : Type 0 where
  pub accepted : IsAccepted given log
  pub vars : HasVarsOf given log
  pub novel : IsAllNovel given log
  pub no_empty : HasNoEmpty log
  pub no_units : NamesNoUnits clauses local log
  pub direct : (hints : List ℕ) → IsChain given [] hints → log ≡ []

-- all that an answer says of a formula, the pool and the local clauses
pub record IsAnswerTo (f : Formula) (local : List (List Lit)) (pool : List Step) (budget : ℕ) (answer : Answer) : Type 0 where
  pub log : IsSearchLog (members_of (f.clauses ++ local) pool) (log_of answer)
  pub in_range : (n : ℕ) → All (HasVarsUpTo n) f.clauses → All (HasVarsUpTo n) local → All (λ s. HasVarsUpTo n s.clause) pool → All (λ s. HasVarsUpTo n s.clause) (log_of answer)
  pub few : length (log_of answer) ≤ budget
  pub right : IsRight f.vars (f.clauses ++ local) pool budget answer
  pub stopped : IsStopped (f.clauses ++ local) pool answer
  pub units : NamesNoUnits (length f.clauses) local (log_of answer)
  pub last : HasEmptyOnlyLast (log_of answer)
  pub small : HasFewValues answer
