use Rattle.hub_turns.proofs.OwnEntries.{published_grows, import_grows, may_open_still, may_record_still}
use Rattle.hub_turns.proofs.BackedRuns.{imported_pool}
use Rattle.hub_turns.proofs.journal_laws.others_take_nothing_away.Goals as goal

pub returns-clause-published : goal.returns-clause-published
returns-clause-published c = published_grows

pub returns-clause-imported : goal.returns-clause-imported
returns-clause-imported c = import_grows

pub returns-clause-pool : goal.returns-clause-pool
returns-clause-pool c = imported_pool

pub returns-clause-opened : goal.returns-clause-opened
returns-clause-opened c = may_open_still

pub returns-clause-recorded : goal.returns-clause-recorded
returns-clause-recorded c = may_record_still
