use Rattle.hub_turns.proofs.OwnEntries.{own_exchanges, own_replay, grown_by_others}
use Rattle.hub_turns.proofs.journal_laws.own_entries_tell_all.Goals as goal

pub returns-clause-exchanges : goal.returns-clause-exchanges
returns-clause-exchanges c = own_exchanges

pub returns-clause-replay : goal.returns-clause-replay
returns-clause-replay c = own_replay

pub returns-clause-others : goal.returns-clause-others
returns-clause-others c = grown_by_others
