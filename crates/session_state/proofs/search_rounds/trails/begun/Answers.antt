use Rattle.std.proofs.Common.{length, refl, ap, sym, subst, arith}
use Rattle.minimiser.specs.Lowering.{IsOver}
use Rattle.session_state.proofs.Rounds.RestingTrails.{same_base, same_search}
use Rattle.session_state.proofs.search_rounds.trails.begun.Goals as goal

pub returns : goal.returns
returns c =
    let f = c.args.translation.now.cnf in
    let local = c.args.local.now in
    let pool = c.args.pool.now in
    let base = same_base c.cnf-cnf.result.now f c.in_ok-base.base c.cnf-cnf.ensures c.in_ok-base.ensures.base in
    record {
      known = tt;
      base = base;
      descents = subst (IsOver f) (sym c.in_ok-descents.ensures) (record { clauses_are = base.clauses_are; enough = base.enough });
      search = same_search c.cnf-cnf.result.now f local local pool pool c.in_ok-search.search c.cnf-cnf.ensures refl refl c.in_ok-search.ensures.kept;
      few = omega (arith, ap length c.in_ok-search.ensures.none);
    }
