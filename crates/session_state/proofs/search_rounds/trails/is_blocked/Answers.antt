use Rattle.std.proofs.Common.{◌≡◌, ◌++◌, ◌∷◌, Bool, ℕ, List, length, subst}
use Rattle.std.proofs.lemmas.Result.{IfOk-weaker}
use Rattle.cnf_core.specs.declared.literal.Lit.{Lit}
use Rattle.cnf_core.specs.Literal.{HasVarsUpTo}
use Rattle.sat_core.specs.Kept.{Kept, IfBlocked}
use Rattle.session_state.proofs.Rounds.RestingTrails.{blocked_at}
use Rattle.session_state.proofs.search_rounds.trails.is_blocked.Goals as goal

pub block-requires-clause-vars : goal.block-requires-clause-vars
block-requires-clause-vars c = subst (λ (n : ℕ). HasVarsUpTo n c.args.clause.now) c.vars.ensures.vars (c.is_over.ensures c.if-not-is_over.false)

pub returns-clause-blocked : goal.returns-clause-blocked
returns-clause-blocked c =
    let f = c.args.f.now in
    let pool = c.args.pool.now in
    let local : List (List Lit) = c.args.local.now in
    let place = c.args.place in
    let clause : List Lit = c.args.clause.now in
    let was : Kept = c.args.search.now in
    let now : Kept = c.block.new.self in
    let Blocked : Bool → Type 0 = λ is. (first rest : List (List Lit)) → local ≡ first ++ rest → place ≡ length first → IfBlocked f (first ++ clause ∷ rest) pool clause was now is in
    IfOk-weaker c.block.result Blocked _ (λ is blocked. blocked_at f local pool place clause was now is c.requires.place blocked) c.block.ensures.blocked
