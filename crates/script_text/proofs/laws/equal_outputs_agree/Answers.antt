use Rattle.script_text.proofs.SameOutputs.{equal_outputs}
use Rattle.script_text.proofs.laws.equal_outputs_agree.Goals as goal

pub returns : goal.returns
returns c = equal_outputs
