use Rattle.std.proofs.Common.{◌≡◌, ◌∷◌, map, take}
use Rattle.hub_tests.proofs.of_clause_pool.formula.Given as goal

abbrev pub invariant-loop-step : goal.invariant-loop-step
invariant-loop-step l = record { vars : l.formula.vars ≡ 1000; clauses : l.formula.clauses ≡ l.clause ∷ map (λ s. s.clause) (take l.step-index l.listed) }
