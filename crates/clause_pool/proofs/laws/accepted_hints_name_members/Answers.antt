use Rattle.clause_pool.proofs.Accepting.{named_hints, hints_from_one}
use Rattle.clause_pool.proofs.laws.accepted_hints_name_members.Goals as goal

pub returns-clause-named : goal.returns-clause-named
returns-clause-named c = named_hints

pub returns-clause-from_one : goal.returns-clause-from_one
returns-clause-from_one c = hints_from_one
