use Rattle.std.proofs.Common.{◌++◌, take, drop, take-append-drop, sym, subst}
use Rattle.refutation_check.specs.Chain.{IsAccepted}
use Rattle.hub_state.specs.Journal.Journal.{pool_of}
use Rattle.clause_pool.proofs.Accepting.{front_accepted}
use Rattle.hub_state.proofs.Journal.Pools.{pool_right}
use Rattle.hub_state.proofs.Journal.Imports.{as_long, stays}
use Rattle.hub_state.proofs.journal_rules.laws.an_import_stays.Goals as goal

pub returns-clause-length : goal.returns-clause-length
returns-clause-length c = as_long

pub returns-clause-stays : goal.returns-clause-stays
returns-clause-stays c = stays

pub returns-clause-accepted : goal.returns-clause-accepted
returns-clause-accepted c problems journal legal by key t pool has =
    let whole = pool_of key journal in
    let right = pool_right problems key journal legal t has.published in
    let parts : IsAccepted t.cnf.clauses (take has.steps whole ++ drop has.steps whole) = subst (IsAccepted t.cnf.clauses) (sym (take-append-drop has.steps whole)) right.accepted in
    subst (IsAccepted t.cnf.clauses) (sym has.prefix) (front_accepted t.cnf.clauses (take has.steps whole) (drop has.steps whole) parts)
