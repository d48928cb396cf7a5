use Rattle.script_format.proofs.UniqueScripts.{one_script}
use Rattle.script_format.proofs.laws.bytes_say_one_script.Goals as goal

pub returns : goal.returns
returns c = λ bytes s t a b. one_script bytes s t a b
