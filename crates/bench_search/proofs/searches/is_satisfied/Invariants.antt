use Rattle.std.proofs.Common.{All, take}
use Rattle.std.specs.Prelude.{IsTrue}
use Rattle.cnf_core.specs.Valuation.{clause_value, value_of}
use Rattle.bench_search.proofs.searches.is_satisfied.Given as goal

abbrev pub invariant-loop-i : goal.invariant-loop-i
invariant-loop-i l = All (λ c. IsTrue (clause_value (value_of l.valuation) c)) (take l.i l.f.clauses)
