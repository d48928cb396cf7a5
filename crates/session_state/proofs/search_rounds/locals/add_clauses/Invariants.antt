use Rattle.std.proofs.Common.{◌≡◌, ◌++◌, take}
use Rattle.session_state.proofs.search_rounds.locals.add_clauses.Given as goal

abbrev pub invariant-loop-number : goal.invariant-loop-number
invariant-loop-number l = l.clauses.items ≡ l.fn.clauses.items ++ take l.number l.cnf.clauses
