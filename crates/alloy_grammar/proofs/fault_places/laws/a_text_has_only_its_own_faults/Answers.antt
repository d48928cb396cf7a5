use Rattle.std.proofs.Common.{arith}
use Rattle.alloy_grammar.proofs.Faults.Models.{text_not_refused, text_too_deep, text_has_form}
use Rattle.alloy_grammar.proofs.fault_places.laws.a_text_has_only_its_own_faults.Goals as goal

pub returns-clause-refused : goal.returns-clause-refused
returns-clause-refused c ts rest m e text = text_not_refused 200 (omega arith) ts rest m e text

pub returns-clause-too_deep : goal.returns-clause-too_deep
returns-clause-too_deep c ts rest m e text = text_too_deep 200 (omega arith) ts rest m e text

pub returns-clause-unsupported : goal.returns-clause-unsupported
returns-clause-unsupported c f ts rest m e text plain = text_has_form 200 (omega arith) f ts rest m e text plain
