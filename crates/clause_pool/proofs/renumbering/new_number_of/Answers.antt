use Rattle.std.proofs.Common.{arith, sym, ◌∙◌}
use Rattle.clause_pool.specs.Pooled.{marks_of}
use Rattle.clause_pool.proofs.NewNumbers.{number_of_clause, number_of_pool, number_of_own}
use Rattle.clause_pool.proofs.renumbering.new_number_of.Goals as goal

pub returns-then-hint-clauses : goal.returns-then-hint-clauses
returns-then-hint-clauses c = sym (number_of_clause c.args.clauses c.args.local c.args.pool (marks_of c.args.own.now) c.args.hint c.requires.from_one (omega arith))

pub returns-then-hint-clauses-3 : goal.returns-then-hint-clauses-3
returns-then-hint-clauses-3 c = sym (number_of_pool c.args.clauses c.args.local c.args.pool (marks_of c.args.own.now) c.args.hint (omega arith) (omega arith))

pub returns-else-hint-clauses-3 : goal.returns-else-hint-clauses-3
returns-else-hint-clauses-3 c = c.own_number.ensures ∙ sym (number_of_own c.args.clauses c.args.local c.args.pool c.args.own.now c.requires.table c.args.hint (omega arith))
