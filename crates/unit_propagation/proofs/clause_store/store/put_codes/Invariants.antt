use Rattle.std.proofs.Common.{◌≡◌, ◌+◌, ◌-◌, ◌≤◌, ◌++◌, length, map, take, vec_len, vec_capacity}
use Rattle.unit_propagation.specs.Clauses.Codes.{code_of}
use Rattle.unit_propagation.proofs.clause_store.store.put_codes.Given as goal

abbrev pub invariant-loop-lit : goal.invariant-loop-lit
invariant-loop-lit l = record {
  items : l.into.items ≡ l.fn.into.items ++ map code_of (take l.lit-index l.lits);
  room : vec_len l.into + (length l.lits - l.lit-index) ≤ vec_capacity l.into;
}
