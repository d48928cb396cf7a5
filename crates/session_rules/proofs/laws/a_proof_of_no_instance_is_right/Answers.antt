use Rattle.session_rules.specs.Proofs.{whole_log}
use Rattle.translation_rules.specs.Locals.{units_of}
use Rattle.session_rules.proofs.laws.a_proof_of_no_instance_is_right.Goals as goal

pub returns : goal.returns
returns c p t stands floor proof proves = c.refuted_units_are_impossible.ensures p t stands floor (whole_log t (units_of floor) proof) proves.refutation
