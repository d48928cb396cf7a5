-- The first nodes have their literals.
use Rattle.std.proofs.Common.{◌≡◌, length}
use Rattle.circuit_cnf.specs.Encoding.{IsEncoding}
use Rattle.circuit_cnf.proofs.encoding.encoding_of.Given as goal

abbrev pub invariant-loop-i : goal.invariant-loop-i
invariant-loop-i l = record {
  count : length l.encoding.literals.items ≡ l.i;
  so_far : IsEncoding l.circuit l.fn.output l.marks.items l.encoding.vars l.encoding.literals.items l.encoding.clauses.items;
}
