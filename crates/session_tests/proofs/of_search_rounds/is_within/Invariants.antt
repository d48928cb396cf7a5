use Rattle.std.proofs.Common.{◌≤◌, All, take}
use Rattle.cnf_core.specs.declared.literal.Lit.{Lit}
use Rattle.session_tests.proofs.of_search_rounds.is_within.Given as goal

abbrev pub invariant-loop-lit : goal.invariant-loop-lit
invariant-loop-lit l = All (λ (lit : Lit). lit.var ≤ 1000) (take l.lit-index l.lit-items)
