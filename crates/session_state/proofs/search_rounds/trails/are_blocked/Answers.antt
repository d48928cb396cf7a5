use Rattle.std.proofs.Common.{◌≡◌, ◌+◌, List, subst, arith}
use Rattle.cnf_core.specs.declared.literal.Lit.{Lit}
use Rattle.sat_core.specs.Kept.{IsKept}
use Rattle.session_state.proofs.Rounds.SameLists.{all_in_place}
use Rattle.session_state.proofs.search_rounds.trails.are_blocked.Goals as goal

pub returns-clause-followed : goal.returns-clause-followed
returns-clause-followed c = λ t.
    let new : List (List Lit) = c.args.new.now in
    let over : c.loop-at.at ≡ c.args.place + c.args.more = omega arith in
    subst (λ (ls : List (List Lit)). IsKept c.args.f.now ls c.args.pool.now c.loop-at.search) (all_in_place c.loop-at.local.items new c.loop-at.at (c.args.place + c.args.more) over c.loop-at.invariant.same) c.loop-at.invariant.kept
