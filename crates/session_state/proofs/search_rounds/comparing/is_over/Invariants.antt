use Rattle.std.proofs.Common.{take}
use Rattle.cnf_core.specs.Literal.{HasVarsUpTo}
use Rattle.session_state.proofs.search_rounds.comparing.is_over.Given as goal

abbrev pub invariant-loop-lit : goal.invariant-loop-lit
invariant-loop-lit l = HasVarsUpTo l.vars (take l.lit-index l.lit-items)
