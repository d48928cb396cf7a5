use Rattle.std.proofs.Common.{◌≡◌, drop}
use Rattle.session_state.specs.Sessions.Listed.{comes_first}
use Rattle.session_state.proofs.session_search.listing.comes_first.Given as goal

abbrev pub invariant-loop-place : goal.invariant-loop-place
invariant-loop-place l = comes_first (drop l.place l.first) (drop l.place l.second) ≡ comes_first l.first l.second
