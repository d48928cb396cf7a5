use Rattle.std.proofs.Common.{◌≡◌, ◌+◌, ◌++◌, take, drop}
use Rattle.sat_core.specs.Kept.{IsKept}
use Rattle.session_state.proofs.search_rounds.trails.are_blocked.Given as goal

abbrev pub invariant-loop-at : goal.invariant-loop-at
invariant-loop-at l = record {
  same : l.local.items ≡ take l.at l.new ++ drop (l.place + l.more) l.new;
  kept : IsKept l.f l.local.items l.pool l.search;
  steps : l.search.steps ≡ l.initial.search.steps;
}
