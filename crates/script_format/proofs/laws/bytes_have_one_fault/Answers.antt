use Rattle.script_format.proofs.UniqueScripts.{one_fault, no_fault_of_script}
use Rattle.script_format.proofs.laws.bytes_have_one_fault.Goals as goal

pub returns : goal.returns
returns c = record { one = λ bytes f g a b. one_fault bytes f g a b; none = λ bytes s f a b. no_fault_of_script bytes s f a b }
