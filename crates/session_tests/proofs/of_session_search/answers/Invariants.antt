use Rattle.std.proofs.Common.{◌≤◌, length}
use Rattle.session_state.specs.Sessions.Fits.{FitsProblem}
use Rattle.session_tests.proofs.of_session_search.answers.Given as goal

abbrev pub invariant-loop-ask : goal.invariant-loop-ask
invariant-loop-ask l = record {
  fits : FitsProblem l.made.problem l.session.kept;
  few : length l.session.kept.state.shown ≤ l.ask-index;
}
