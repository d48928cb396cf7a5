-- A search that is gone on with: what its trail keeps, and what was learnt on it.
use Rattle.std.specs.Prelude.{◌≡◌, ◌<◌, ◌≤◌, ◌+◌, ◌-◌, ◌^◌, ◌++◌, ◌∷◌, ◌⊎◌, [], ℕ, zero, suc, Bool, true, false, List, All, Contains, length, map, slice_index_or}
use Rattle.cnf_core.specs.declared.literal.Lit.{Lit}
use Rattle.cnf_core.specs.Formula.{Formula}
use Rattle.refutation_check.specs.declared.log.Step.{Step}
use Rattle.refutation_check.specs.Chain.{members_of, IsAccepted, Names, Subsumes}
use Rattle.refutation_check.specs.SearchLog.{HasVarsOf, HasNoEmpty, IsAllNovel}
use Rattle.sat_trail.specs.Trailed.{Trailed}
use Rattle.sat_core.specs.Answers.{IsModel, NamesUnit, NamesNoUnits}
use Rattle.sat_core.specs.Assuming.{IsClash, Keeps, numbered}
use Rattle.sat_core.specs.Lent.{IsStanding}
use Rattle.sat_core.specs.Search.{IsVarIn}
use Rattle.sat_core.specs.declared.lent.Ending.{Ending}
use Rattle.sat_core.specs.declared.lent.Ending.TheVariants.{Found as OnTrail, Clash as ClashOnTrail, Spent as SpentOnTrail}
use Rattle.sat_core.specs.declared.kept.Learnt.{Learnt}
use Rattle.sat_core.specs.declared.kept.Learnt.TheVariants.{Found as Valued, Clash, Spent as NoMore}
use Rattle.sat_core.specs.declared.search.Answer.{Answer}
use Rattle.sat_core.specs.declared.search.Answer.TheVariants.{Found, Refuted, Spent}

-- the trail, the level up to which its decisions are assumed, the literals that are assumed, the number of each of the trail's clauses
-- among all that was given and the steps, and the steps that were learnt, with the trail's numbers as hints
pub record Kept : Type 0 where
  pub trail : Trailed
  pub depth : ℕ
  pub assumed : List Lit
  pub numbers : List ℕ
  pub steps : List Step

-- the number of the trail's clause of this number
abbrev pub number_in : List ℕ → ℕ → ℕ
number_in numbers hint = slice_index_or numbers (hint - 1) 0

-- steps with these numbers in place of their hints
abbrev pub told_by : List ℕ → List Step → List Step
told_by numbers steps = map (numbered (number_in numbers)) steps

-- the steps that were learnt, with hints that number what was given and the steps before
abbrev pub told : Kept → List Step
told k = told_by k.numbers k.steps

-- each hint of the steps is one of so many numbers, from 1
abbrev pub AreWithin : ℕ → List Step → Type 0
AreWithin count steps = All (λ s. All (λ hint. (1 ≤ hint) × (hint ≤ count)) s.hints) steps

-- the steps are an accepted log over what was given, each novel and none empty; the clauses of the trail are the steps' and all that was
-- given but local clauses of one literal, which are assumed; and each of them has its number
pub record KeepsTo (f : Formula) (local : List (List Lit)) (pool : List Step) (clauses : List (List Lit)) (vars : ℕ) (assumed : List Lit) (numbers : List ℕ) (steps : List Step) : Type 0 where
  pub as_many : length numbers ≡ length clauses
  pub few : length clauses ≤ length (members_of (f.clauses ++ local) pool) + length steps
  pub of_formula : f.vars ≤ vars
  pub in_range : All (IsVarIn vars) assumed
  pub keeps : Keeps (members_of (members_of (f.clauses ++ local) pool) steps) clauses assumed
  pub units : (l : Lit) → Contains assumed l → Contains local (l ∷ [])
  pub named : (hint : ℕ) (c : List Lit) → Names clauses hint c → Names (members_of (members_of (f.clauses ++ local) pool) steps) (number_in numbers hint) c
  pub no_unit : (hint : ℕ) → 1 ≤ hint → hint ≤ length clauses → ¬ NamesUnit (length f.clauses) local (number_in numbers hint)
  pub within : AreWithin (length numbers) steps
  pub accepted : IsAccepted (members_of (f.clauses ++ local) pool) (told_by numbers steps)
  pub step_vars : HasVarsOf (members_of (f.clauses ++ local) pool) steps
  pub novel : IsAllNovel (members_of (f.clauses ++ local) pool) steps
  pub no_empty : HasNoEmpty steps
  pub none_assumed : All (λ s. All (λ l. ¬ Contains assumed l) s.clause) steps
  pub no_units : NamesNoUnits (length f.clauses) local (told_by numbers steps)

-- what the search holds is of the formula, the local clauses and the pool
abbrev pub HoldsTo : Formula → List (List Lit) → List Step → Kept → Type 0
HoldsTo f local pool k = KeepsTo f local pool k.trail.clauses k.trail.vars k.assumed k.numbers k.steps

-- the search is one for the formula, the local clauses and the pool, and can be gone on with from where its trail stands
pub record IsKept (f : Formula) (local : List (List Lit)) (pool : List Step) (k : Kept) : Type 0 where
  pub holds : HoldsTo f local pool k
  pub stands : IsStanding k.assumed k.depth k.trail

-- so many numbers, from the first one on
abbrev pub numbers_from : ℕ → ℕ → List ℕ
numbers_from first zero = []
numbers_from first (suc count) = numbers_from first count ++ (first + count) ∷ []

-- one more step can be learnt
pub record HasMore (f : Formula) (local : List (List Lit)) (pool : List Step) (k : Kept) : Type 0 where
  pub more : Kept
  pub holds : HoldsTo f local pool more
  pub step : Step
  pub told_more : told more ≡ told k ++ step ∷ []

-- nothing was found
abbrev pub IsEnd : Answer → Type 0
IsEnd (Found valuation log) = ⊥
IsEnd (Refuted log) = Unit {0}
IsEnd (Spent log) = Unit {0}

-- where something was found, no step is told
abbrev pub TellsNoFound : Answer → Type 0
TellsNoFound (Found valuation log) = log ≡ []
TellsNoFound (Refuted log) = Unit {0}
TellsNoFound (Spent log) = Unit {0}

-- what was learnt leads to a valuation of all that is given; or propagation shows with it that this can't hold; or there are as many steps as
-- there may be, and one more can be learnt
abbrev pub IsLearntTo : Formula → List (List Lit) → List Step → ℕ → Kept → Learnt → Type 0
IsLearntTo f local pool most k (Valued valuation) = IsModel f.vars (f.clauses ++ local) valuation × (length valuation < 2 ^ 31)
IsLearntTo f local pool most k Clash = IsClash k.trail.clauses k.assumed
IsLearntTo f local pool most k NoMore = (length k.steps ≡ most) × HasMore f local pool k

-- one of the steps contains the clause
abbrev pub IsContainedIn : List Lit → List Step → Type 0
IsContainedIn clause steps = (s : Step) × Contains steps s × Subsumes clause s.clause

-- the clause is one of these local clauses now; or it is of one literal, or a kept step contains it, and all stayed as it was
abbrev pub IfBlocked : Formula → List (List Lit) → List Step → List Lit → Kept → Kept → Bool → Type 0
IfBlocked f local pool clause old new true = IsKept f local pool new
IfBlocked f local pool clause old new false = (new ≡ old) × ((length clause ≡ 1) ⊎ IsContainedIn clause old.steps)

-- the end of a search on a trail, without its steps
abbrev pub IsLearntOf : Ending → Learnt → Type 0
IsLearntOf (OnTrail valuation log) end = end ≡ Valued valuation
IsLearntOf (ClashOnTrail log) end = end ≡ Clash
IsLearntOf (SpentOnTrail log) end = end ≡ NoMore
