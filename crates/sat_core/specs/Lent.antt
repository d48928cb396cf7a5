-- What a search on a trail that is lent comes to.
use Rattle.std.specs.Prelude.{◌≡◌, ◌⊎◌, ◌++◌, ◌∷◌, [], ℕ, List, All, Contains, length, map}
use Rattle.cnf_core.specs.declared.literal.Lit.{Lit}
use Rattle.cnf_core.specs.Literal.{negation_of}
use Rattle.refutation_check.specs.declared.log.Step.{Step}
use Rattle.refutation_check.specs.Chain.{members_of, IsAccepted}
use Rattle.refutation_check.specs.SearchLog.{HasVarsOf, HasNoEmpty, IsAllNovel}
use Rattle.sat_trail.specs.Trailed.{Trailed}
use Rattle.sat_trail.specs.Closed.{IsClosed, IsClosedBelow}
use Rattle.sat_core.specs.Answers.{IsModel}
use Rattle.sat_core.specs.Assuming.{AreTrue, IsAssumedFirst, IsClash}
use Rattle.sat_core.specs.declared.lent.Ending.{Ending}
use Rattle.sat_core.specs.declared.lent.Ending.TheVariants.{Found, Clash, Spent}

-- the steps that led to the end
abbrev pub steps_of : Ending → List Step
steps_of (Found valuation log) = log
steps_of (Clash log) = log
steps_of (Spent log) = log

-- propagation of what is assumed has an end: these literals are false, none with its opposite, each assumed literal is true, no
-- clause is falsified, and none is a unit with its literal open
pub record Permits (clauses : List (List Lit)) (assumed : List Lit) : Type 0 where
  pub falses : List Lit
  pub consistent : (l : Lit) → Contains falses l → ¬ Contains falses (negation_of l)
  pub closed : IsClosed clauses falses
  pub is_true : AreTrue falses assumed

-- each step is a chain over the clauses and the earlier steps, has only their variables, contains none of them, is not empty, and has
-- no assumed literal; and none was learnt where propagation of what is assumed ends with a falsified clause
pub record IsLearnt (clauses : List (List Lit)) (assumed : List Lit) (log : List Step) : Type 0 where
  pub accepted : IsAccepted clauses log
  pub vars : HasVarsOf clauses log
  pub novel : IsAllNovel clauses log
  pub no_empty : HasNoEmpty log
  pub none_assumed : All (λ s. All (λ l. ¬ Contains assumed l) s.clause) log
  pub direct : (log ≡ []) ⊎ Permits clauses assumed

-- the clauses, and for each assumed literal a clause of it alone
abbrev pub with_units : List (List Lit) → List Lit → List (List Lit)
with_units clauses assumed = clauses ++ map (λ l. l ∷ []) assumed

-- the valuation satisfies the clauses with what is assumed; or these can't hold, as propagation alone shows with the steps; or so many
-- steps were learnt as the budget has, and one more follows
abbrev pub IsEnding : ℕ → List (List Lit) → List Lit → ℕ → Ending → Type 0
IsEnding vars clauses assumed budget (Found valuation log) = (length valuation ≡ vars) × IsModel vars (with_units clauses assumed) valuation
IsEnding vars clauses assumed budget (Clash log) = IsClash (members_of clauses log) assumed
IsEnding vars clauses assumed budget (Spent log) = (length log ≡ budget) × (step : Step) × IsLearnt clauses assumed (log ++ step ∷ [])

-- the trail was closed before each decision, and has the assumed literals first, up to this level
pub record IsStanding (assumed : List Lit) (depth : ℕ) (trail : Trailed) : Type 0 where
  pub closed_below : IsClosedBelow trail.clauses trail.assigned
  pub assumed_first : IsAssumedFirst assumed depth trail.assigned

-- where a valuation was found, the search can go on from there
abbrev pub StandsBehind : List Lit → ℕ → Trailed → Ending → Type 0
StandsBehind assumed depth trail (Found valuation log) = IsStanding assumed depth trail
StandsBehind assumed depth trail (Clash log) = Unit {0}
StandsBehind assumed depth trail (Spent log) = Unit {0}
