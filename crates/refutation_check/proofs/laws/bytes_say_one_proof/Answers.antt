use Rattle.refutation_check.proofs.ProofLaws.{one_proof, proof_has_no_fault, one_fault}
use Rattle.refutation_check.proofs.laws.bytes_say_one_proof.Goals as goal

pub returns-clause-proof : goal.returns-clause-proof
returns-clause-proof c = one_proof

pub returns-clause-no_fault : goal.returns-clause-no_fault
returns-clause-no_fault c = proof_has_no_fault

pub returns-clause-fault : goal.returns-clause-fault
returns-clause-fault c = one_fault
