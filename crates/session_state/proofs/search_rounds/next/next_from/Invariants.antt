use Rattle.std.proofs.Common.{◌≡◌, ◌+◌, ◌≤◌, length}
use Rattle.minimiser.specs.Lowering.{IsOver}
use Rattle.translation_rules.specs.Locals.{locals_of}
use Rattle.session_state.specs.Rounds.Going.{IsGoing}
use Rattle.session_state.proofs.Rounds.RoundStates.{Going}
use Rattle.session_state.proofs.search_rounds.next.next_from.Given as goal

abbrev pub invariant-rounds : goal.invariant-rounds
invariant-rounds l = record {
  over : IsOver l.translation.cnf l.trail;
  local : l.local ≡ locals_of l.translation l.floor l.blocked.items;
  search : IsGoing l.translation l.pool l.floor l.blocked.items l.search;
  few : length l.search.steps ≤ l.left;
  going : Going l.translation l.pool l.floor l.shown l.copies l.budget l.blocked.items l.parts.items l.found.items l.left;
  spent : l.count + l.left + length l.fn.search.steps ≤ l.fn.count + l.budget + length l.search.steps;
}

abbrev pub decreases-rounds : goal.decreases-rounds
decreases-rounds l = l.left
