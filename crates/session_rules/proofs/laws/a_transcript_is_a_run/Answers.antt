use Rattle.session_rules.proofs.Readings.{read_as_run}
use Rattle.session_rules.proofs.laws.a_transcript_is_a_run.Goals as goal

pub returns-clause-run : goal.returns-clause-run
returns-clause-run c p old commands replies floors xs h = let is = read_as_run p old commands replies floors xs h in is.run

pub returns-clause-each : goal.returns-clause-each
returns-clause-each c p old commands replies floors xs h = let is = read_as_run p old commands replies floors xs h in (is.replies_each, is.floors_each)
