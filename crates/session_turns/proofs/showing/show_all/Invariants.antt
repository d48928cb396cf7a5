use Rattle.std.proofs.Common.{◌≡◌, ◌≤◌, ◌+◌, ◌*◌, ℕ, length, vec_len, vec_capacity}
use Rattle.session_turns.specs.Showing.{IsFirst}
use Rattle.hub_turns.specs.Turned.{WentOn}
use Rattle.session_turns.specs.Added.{HasShownAll}
use Rattle.session_turns.specs.Seated.{IsSeated, BeginsPool}
use Rattle.session_turns.proofs.showing.show_all.Given as goal

abbrev pub invariant-loop-time : goal.invariant-loop-time
invariant-loop-time g l = record {
  goes : WentOn l.lock l.fn.pass l.pass;
  shown : HasShownAll l.translation l.fn.pass l.pass l.fn.session l.session l.showing.scenarios.items;
  first : IsFirst l.fn.session.kept.state l.showing.scenarios.items l.showing.first;
  count : length l.showing.scenarios.items ≡ l._time;
  len : vec_len l.showing.scenarios ≡ l._time;
  room : l.wanted ≤ vec_capacity l.showing.scenarios;
  seated : (shown : ℕ) → IsSeated l.lock l.translation shown l.fn.pass l.fn.session → IsSeated l.lock l.translation (shown + l._time) l.pass l.session;
  key : l.session.key ≡ l.fn.session.key;
  begins : BeginsPool l.pool l.pass l.session;
  spent : l.count ≤ l.fn.count + l._time * l.fn.session.kept.state.budget;
  budget : l.session.kept.state.budget ≡ l.fn.session.kept.state.budget;
}
