use Rattle.hub_state.proofs.Journal.Prefixes.{grows, nothing_before}
use Rattle.hub_state.proofs.journal_rules.laws.a_legal_journal_grows.Goals as goal

pub returns-clause-empty : goal.returns-clause-empty
returns-clause-empty c = nothing_before

pub returns-clause-grows : goal.returns-clause-grows
returns-clause-grows c = grows
