use Rattle.std.proofs.Common.{◌≡◌, ◌≤◌, ◌+◌, length, take, drop, vec_len, vec_capacity}
use Rattle.script_format.specs.Limits.{asked_by}
use Rattle.hub_turns.specs.Turned.{WentOn}
use Rattle.session_turns.specs.Allowed.{allowed}
use Rattle.session_turns.specs.Seated.{IsSeated, BeginsPool}
use Rattle.session_turns.proofs.SoFar.{IsSoFar}
use Rattle.session_turns.proofs.serving.serve_session.Given as goal

abbrev pub invariant-loop-number : goal.invariant-loop-number
invariant-loop-number g l = record {
  goes : WentOn l.lock l.fn.pass l.pass;
  seated : IsSeated l.lock l.translation (asked_by (take l.number l.commands)) l.pass l.session;
  key : l.session.key ≡ l.fn.session.key;
  begins : BeginsPool l.pool l.pass l.session;
  so_far : IsSoFar l.translation l.fn.pass l.pass l.fn.session l.session (take l.number l.commands) l.replies.items l.floors.items;
  replies : vec_len l.replies ≡ l.number;
  floors : vec_len l.floors ≡ l.number;
  room : length l.commands ≤ vec_capacity l.replies;
  floor_room : length l.commands ≤ vec_capacity l.floors;
  spent : l.count + allowed l.session.kept.state.budget (drop l.number l.commands) ≤ l.fn.count + allowed l.fn.session.kept.state.budget l.commands;
}
