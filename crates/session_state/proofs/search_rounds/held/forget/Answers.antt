use Rattle.std.proofs.Common.{List, length, ap, subst, arith}
use Rattle.cnf_core.specs.declared.literal.Lit.{Lit}
use Rattle.sat_core.specs.Kept.{IsKept}
use Rattle.session_state.proofs.search_rounds.held.forget.Goals as goal

pub anew-requires-clause-local : goal.anew-requires-clause-local
anew-requires-clause-local c = (c.args.blocked.now, c.requires.local, c.requires.few)

pub returns : goal.returns
returns c =
    let none = ap length c.in_ok-search.ensures.none in
    record {
      going = subst (λ (ls : List (List Lit)). IsKept c.args.translation.now.cnf ls c.args.pool.now c.in_ok-search.field-0) c.requires.local c.in_ok-search.ensures.kept;
      few = omega arith;
    }
