use Rattle.std.proofs.Common.{◌≤◌, ℕ}
use Rattle.crew_run.specs.Crew.{HasGivenUp}
use Rattle.crew_run.proofs.answer.have_given_up.Given as goal

abbrev pub invariant-loop-place : goal.invariant-loop-place
invariant-loop-place l = (by : ℕ) → 1 ≤ by → by ≤ l.place → HasGivenUp l.entries by
