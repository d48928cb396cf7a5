-- A hub may go to another thread, as its parts may. The search that a call makes by itself ends before it has seen all of them.
use denote.Param.Send.{IsSend, sendable}
use Rattle.std.proofs.Crossing
use Rattle.rel_formula.proofs.formula.Expression.TheLaws.TheKnot as expression
use Rattle.rel_formula.proofs.formula.Formula.TheLaws.TheKnot as formula
use Rattle.clause_pool.proofs.pool.Pool.TheSendSync as pool
use Rattle.hub_state.proofs.journal_rules.event.Entry.TheSendSync as entry
use Rattle.rel_formula.specs.contracts.problem.Problem as Problem
use Rattle.translation_cache.specs.contracts.cache.Cache as Cache
use Rattle.hub_state.specs.contracts.hub.Hub.{the_row}

problem : IsSend Problem.the_row
problem = search (Crossing.crosses, expression.crosses, formula.crosses, sendable) depth 60 fits 20000

cache : IsSend Cache.the_row
cache = search (Crossing.crosses, expression.crosses, formula.crosses, sendable) depth 60 fits 20000

pub hub_send : IsSend the_row
hub_send = search (problem, cache, pool.the_send, entry.the_send, Crossing.crosses, sendable) depth 60 fits 20000
