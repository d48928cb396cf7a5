use Rattle.std.proofs.Common.{ℕ, subst, IfOk}
use Rattle.rel_formula.specs.declared.problem.Relation.{Relation}
use Rattle.translation_tests.specs.Tables.{IsTable}
use Rattle.translation_tests.proofs.tables.table_of_pairs.Goals as goal

pub returns : goal.returns
returns c = subst (λ (n : ℕ). IfOk c.table.result (λ (r : Relation). IsTable c.args.name.now n r)) c.in_ok-set.ensures.arity c.table.ensures
