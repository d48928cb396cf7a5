use Rattle.std.proofs.Common.{◌∙◌, length, ap, sym, subst, arith}
use Rattle.minimiser.specs.Lowering.{IsOver}
use Rattle.sat_core.specs.Kept.{IsKept}
use Rattle.session_state.proofs.Rounds.RestingTrails.{same_base}
use Rattle.session_state.proofs.search_rounds.held.HeldSearch.at.Goals as goal

pub anew-requires-clause-base : goal.anew-requires-clause-base
anew-requires-clause-base c = same_base c.cnf.result.now c.args.translation.now.cnf c.in_ok-base.base c.cnf.ensures c.in_ok-base.ensures.base

pub anew-requires-clause-local : goal.anew-requires-clause-local
anew-requires-clause-local c = (c.args.blocked.now, c.as_slice.ensures ∙ c.in_ok-local.ensures ∙ c.in_ok-clauses.ensures, c.requires.few)

pub returns : goal.returns
returns c =
    let t = c.args.translation.now in
    let base = same_base c.cnf.result.now t.cnf c.in_ok-base.base c.cnf.ensures c.in_ok-base.ensures.base in
    let none = ap length c.in_ok-search.ensures.none in
    let local = c.in_ok-local.ensures ∙ c.in_ok-clauses.ensures in
    record {
      base = base;
      descents = subst (IsOver t.cnf) (sym c.in_ok-descents.ensures) (record { clauses_are = base.clauses_are; enough = base.enough });
      local = local;
      going = subst (λ ls. IsKept t.cnf ls c.args.pool.now c.in_ok-search.search) (c.as_slice.ensures ∙ local) c.in_ok-search.ensures.kept;
      few = omega arith;
    }
