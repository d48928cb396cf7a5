use Rattle.std.proofs.Common.{◌≡◌, ℕ, List, take, subst, arith}
use Rattle.cnf_core.specs.declared.literal.Lit.{Lit}
use Rattle.session_state.proofs.Rounds.SameLists.{same_more}
use Rattle.session_state.proofs.search_rounds.comparing.shared.Goals as goal

pub loop-i-preserved : goal.loop-i-preserved
loop-i-preserved c =
    let xs : List (List Lit) = c.args.clauses.now in
    let ys : List (List Lit) = c.args.others.now in
    same_more xs ys c.loop-i.i c.index-clauses-i.result c.index-others-i.result (omega arith) (omega arith) c.index-clauses-i.is c.index-others-i.is (c.is_same_clause.ensures c.if-not-is_same_clause.false) c.loop-i.invariant

pub returns-clause-same : goal.returns-clause-same
returns-clause-same c =
    let there : c.loop-i.i ≡ c.min-most.result = omega arith in
    subst (λ (n : ℕ). take n c.args.clauses.now ≡ take n c.args.others.now) there c.loop-i.invariant
