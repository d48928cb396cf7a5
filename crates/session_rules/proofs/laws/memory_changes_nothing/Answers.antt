use Rattle.session_rules.proofs.Readings.{run_without, state_without}
use Rattle.session_rules.proofs.laws.memory_changes_nothing.Goals as goal

pub returns-clause-run : goal.returns-clause-run
returns-clause-run c = run_without

pub returns-clause-state : goal.returns-clause-state
returns-clause-state c = state_without
