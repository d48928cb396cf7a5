use Rattle.session_rules.proofs.Refuted.{end_right}
use Rattle.session_rules.proofs.laws.a_proof_of_an_end_is_right.Goals as goal

pub returns : goal.returns
returns c p t stands = end_right c.accepted_is_entailed.ensures.refuted p t (c.local_clauses_say_what_is_left.ensures p t stands)
