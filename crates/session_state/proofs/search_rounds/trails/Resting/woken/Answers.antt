use Rattle.std.proofs.Common.{◌∙◌, List, length, refl, ap, subst, arith}
use Rattle.std.proofs.lemmas.Result.{IfOk-weaker}
use Rattle.cnf_core.specs.declared.literal.Lit.{Lit}
use Rattle.cnf_core.specs.Formula.{Formula}
use Rattle.sat_core.specs.Kept.{IsKept}
use Rattle.session_state.specs.Rounds.Resting.{CanGoOn}
use Rattle.session_state.proofs.Rounds.RestingTrails.{can_keep_more, same_base, same_over, same_search}
use Rattle.session_state.proofs.search_rounds.trails.Resting.woken.Goals as goal

pub returns-then-not-is_of : goal.returns-then-not-is_of
returns-then-not-is_of c =
    let f = c.args.translation.now.cnf in
    let local = c.args.local.now in
    let pool = c.args.pool.now in
    IfOk-weaker c.begun.result (CanGoOn f local pool 0) _ (can_keep_more f local pool 0 c.args.most (omega arith)) c.begun.ensures

pub turn-requires-clause-base : goal.turn-requires-clause-base
turn-requires-clause-base c =
    let r = c.self.inside in
    let of' = c.is_of.ensures c.if-not-is_of.false in
    same_base r.known.formula c.cnf-cnf.result.now r.base of'.0 c.self.invariant.0

pub turn-requires-clause-kept : goal.turn-requires-clause-kept
turn-requires-clause-kept c =
    let r = c.self.inside in
    let old : List (List Lit) = r.local.items in
    let of' = c.is_of.ensures c.if-not-is_of.false in
    same_search r.known.formula c.cnf-cnf.result.now old old r.known.pool c.args.pool.now r.search of'.0 refl of'.1 c.self.invariant.2

pub turn-requires-clause-few : goal.turn-requires-clause-few
turn-requires-clause-few c = omega (arith, c.requires.few, ap (λ (f : Formula). length f.clauses) c.cnf-cnf.ensures)

pub returns : goal.returns
returns c =
    let f = c.args.translation.now.cnf in
    let r = c.self.inside in
    let of' = c.is_of.ensures c.if-not-is_of.false in
    let is = of'.0 ∙ c.cnf-cnf.ensures in
    record {
      known = (is, of'.1);
      base = same_base r.known.formula f r.base is c.self.invariant.0;
      descents = same_over r.known.formula f r.descents is c.self.invariant.1;
      search = subst (λ (g : Formula). IsKept g c.args.local.now c.args.pool.now c.turn.new.search) c.cnf-cnf.ensures c.in_ok-turn.ensures.kept;
      few = c.in_ok-turn.ensures.few;
    }
