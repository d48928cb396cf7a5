use Rattle.session_rules.proofs.laws.a_part_is_as_many_as_were_asked.Goals as goal

pub returns : goal.returns
returns c p old n first scenarios xs serves = serves.read.0
