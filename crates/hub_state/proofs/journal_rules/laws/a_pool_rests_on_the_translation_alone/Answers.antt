use Rattle.hub_state.specs.Journal.Journal.{pool_of}
use Rattle.hub_state.proofs.Journal.Prefixes.{one_translation}
use Rattle.hub_state.proofs.Journal.Pools.{pool_right}
use Rattle.hub_state.proofs.journal_rules.laws.a_pool_rests_on_the_translation_alone.Goals as goal

pub returns-clause-one : goal.returns-clause-one
returns-clause-one c = one_translation

pub returns-clause-pool : goal.returns-clause-pool
returns-clause-pool c = pool_right

pub returns-clause-entailed : goal.returns-clause-entailed
returns-clause-entailed c problems key journal legal t published =
    let pool = pool_right problems key journal legal t published in
    c.accepted_is_entailed.ensures.entailed t.cnf.clauses (pool_of key journal) pool.accepted
