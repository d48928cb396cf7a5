use Rattle.session_rules.proofs.Runs.{states_join, runs_apart, runs_joined}
use Rattle.session_rules.proofs.laws.runs_join.Goals as goal

pub returns-clause-run : goal.returns-clause-run
returns-clause-run c p s xs ys = (runs_apart p s xs ys, λ (first, second). runs_joined p s xs ys first second)

pub returns-clause-state : goal.returns-clause-state
returns-clause-state c = states_join
