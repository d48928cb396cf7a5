use Rattle.script_text.proofs.OneText.{one_reply, one_output}
use Rattle.script_text.proofs.laws.what_is_printed_has_one_text.Goals as goal

pub returns : goal.returns
returns c = record { reply = one_reply; output = one_output }
