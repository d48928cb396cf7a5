use Rattle.std.proofs.Common.{All, take}
use Rattle.rel_formula.specs.Instance.{Includes}
use Rattle.samples.proofs.exhaustive_search.minimal.is_minimal_among.Given as goal

abbrev pub invariant-loop-other : goal.invariant-loop-other
invariant-loop-other l = All (λ t. Includes l.scenario t → Includes t l.scenario) (take l.other-index l.scenarios)
