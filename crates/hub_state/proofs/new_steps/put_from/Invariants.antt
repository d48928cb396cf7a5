use Rattle.hub_state.proofs.Behind.{IsBehind}
use Rattle.hub_state.proofs.new_steps.put_from.Given as goal

abbrev pub invariant-loop-at : goal.invariant-loop-at
invariant-loop-at l = IsBehind l.key l.entries l.fn.have l.have l.at l.before
