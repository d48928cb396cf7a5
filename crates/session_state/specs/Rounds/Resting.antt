-- What the searches of a session leave for those to come.
use Rattle.std.specs.Prelude.{◌≡◌, ◌≤◌, List, ℕ, IfSome, length}
use Rattle.cnf_core.specs.declared.literal.Lit.{Lit}
use Rattle.cnf_core.specs.Formula.{Formula}
use Rattle.refutation_check.specs.declared.log.Step.{Step as LogStep}
use Rattle.sat_trail.specs.Trailed.{Trailed, IsBase}
use Rattle.minimiser.specs.Lowering.{IsOver}
use Rattle.sat_core.specs.Kept.{Kept, IsKept}
use Rattle.session_state.specs.declared.search_rounds.trails.Known.{Known}
use Rattle.session_state.specs.declared.search_rounds.trails.Trails.{Trails}

-- the copies are those of the formula and of the pool
abbrev pub IsOf : Formula → List LogStep → Known → Type 0
IsOf f pool k = (k.formula ≡ f) × (k.pool ≡ pool)

-- the trails are those of the formula, and the search is one over these local clauses and the pool, which keeps at most so many steps; what
-- they are known to be over is the formula and the pool
pub record CanGoOn (f : Formula) (local : List (List Lit)) (pool : List LogStep) (most : ℕ) (trails : Trails) : Type 0 where
  pub known : IfSome trails.known (IsOf f pool)
  pub base : IsBase f trails.base
  pub descents : IsOver f trails.descents
  pub search : IsKept f local pool trails.search
  pub few : length trails.search.steps ≤ most

-- a search that rests, with its trails, the formula, the local clauses and the pool
pub record Rested : Type 0 where
  pub formula : Formula
  pub pool : List LogStep
  pub local : List (List Lit)
  pub base : Trailed
  pub descents : Trailed
  pub search : Kept

abbrev pub IsRested : Rested → Type 0
IsRested r = IsBase r.formula r.base × IsOver r.formula r.descents × IsKept r.formula r.local r.pool r.search
