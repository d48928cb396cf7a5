-- Trails that rest, and are gone on with.
use Rattle.std.proofs.Common.{◌≡◌, ◌≤◌, ◌++◌, ◌∷◌, ℕ, Bool, true, List, take, drop, length, sym, subst, arith}
use Rattle.std.specs.List.{insert}
use Rattle.std.proofs.lemmas.List.{length-take-le, take-append-drop}
use Rattle.cnf_core.specs.declared.literal.Lit.{Lit}
use Rattle.cnf_core.specs.Formula.{Formula}
use Rattle.refutation_check.specs.declared.log.Step.{Step as LogStep}
use Rattle.sat_trail.specs.Trailed.{Trailed, IsBase}
use Rattle.minimiser.specs.Lowering.{IsOver}
use Rattle.sat_core.specs.Kept.{Kept, IsKept, IfBlocked}
use Rattle.session_state.specs.declared.search_rounds.trails.Trails.{Trails}
use Rattle.session_state.specs.Rounds.Resting.{CanGoOn}

-- with more steps allowed
pub can_keep_more : (f : Formula) (local : List (List Lit)) (pool : List LogStep) (less most : ℕ) → less ≤ most → (trails : Trails) → CanGoOn f local pool less trails → CanGoOn f local pool most trails
can_keep_more f local pool less most low trails go = record { known = go.known; base = go.base; descents = go.descents; search = go.search; few = let few = go.few in omega arith }

-- a trail of one formula is one of an equal formula
pub same_base : (f g : Formula) (t : Trailed) → f ≡ g → IsBase f t → IsBase g t
same_base f g t same is = subst (λ (x : Formula). IsBase x t) same is

pub same_over : (f g : Formula) (t : Trailed) → f ≡ g → IsOver f t → IsOver g t
same_over f g t same is = subst (λ (x : Formula). IsOver x t) same is

pub same_search : (f g : Formula) (local other : List (List Lit)) (pool steps : List LogStep) (k : Kept) → f ≡ g → local ≡ other → pool ≡ steps → IsKept f local pool k → IsKept g other steps k
same_search f g local other pool steps k same locals pools is =
    subst (λ (x : Formula). IsKept x other steps k) same (subst (λ (ls : List (List Lit)). IsKept f ls steps k) locals (subst (λ (ss : List LogStep). IsKept f local ss k) pools is))

-- a search in which one more local clause was blocked at its place
pub blocked_at : (f : Formula) (local : List (List Lit)) (pool : List LogStep) (place : ℕ) (clause : List Lit) (was now : Kept) (is : Bool) → place ≤ length local
    → ((first rest : List (List Lit)) → local ≡ first ++ rest → place ≡ length first → IfBlocked f (first ++ clause ∷ rest) pool clause was now is) → is ≡ true → IsKept f (insert local place clause) pool now
blocked_at f local pool place clause was now is low blocked it_is =
    let first = take place local in
    let rest = drop place local in
    subst (λ (b : Bool). IfBlocked f (first ++ clause ∷ rest) pool clause was now b) it_is (blocked first rest (sym (take-append-drop place local)) (sym (length-take-le place local low)))
