use Rattle.std.proofs.Common.{IfOk}
use Rattle.refutation_check.proofs.ProofLaws.{only_this}
use Rattle.refutation_check.proofs.ProofVars.{steps_within, hints_in_range, if_ok}
use Rattle.refutation_check.proofs.proof_text.reading.read_proof.Goals as goal

pub returns-clause-only : goal.returns-clause-only
returns-clause-only c f log is = only_this c.args.bytes.now f log c.read_whole.result is c.read_whole.ensures.proof c.read_whole.ensures.fault

pub returns-clause-vars : goal.returns-clause-vars
returns-clause-vars c = if_ok c.read_whole.result (λ read is. steps_within c.args.bytes.now read.0 read.1 is) c.read_whole.ensures.proof

pub returns-clause-hints : goal.returns-clause-hints
returns-clause-hints c = if_ok c.read_whole.result (λ read is. hints_in_range c.args.bytes.now read.0 read.1 is) c.read_whole.ensures.proof
