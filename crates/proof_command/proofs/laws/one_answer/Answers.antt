use Rattle.proof_command.proofs.OneAnswer.{one_status, one_text}
use Rattle.proof_command.proofs.laws.one_answer.Goals as goal

pub returns-clause-status : goal.returns-clause-status
returns-clause-status c = one_status

pub returns-clause-text : goal.returns-clause-text
returns-clause-text c = one_text
