use Rattle.std.proofs.Common.{◌≤◌, ◌*◌, length}
use Rattle.session_state.specs.Sessions.Fits.{FitsProblem}
use Rattle.reference_tests.proofs.of_sessions.serve.Given as goal

abbrev pub invariant-loop-time : goal.invariant-loop-time
invariant-loop-time g l = record {
  fits : FitsProblem l.made.problem l.session.kept;
  few : length l.session.kept.state.shown ≤ 3 * l._time;
}
