use Rattle.std.proofs.Common.{true, refl, arith}
use Rattle.alloy_grammar.proofs.Models.{model_read}
use Rattle.alloy_grammar.proofs.laws.what_is_read_is_a_text.Goals as goal

pub returns-clause-spelled : goal.returns-clause-spelled
returns-clause-spelled c ts m e = (model_read true 200 (omega arith) ts m e).spelled

pub returns-clause-shallow : goal.returns-clause-shallow
returns-clause-shallow c ts m e = (model_read true 200 (omega arith) ts m e).shallow

pub returns-clause-plain : goal.returns-clause-plain
returns-clause-plain c ts m e = (model_read true 200 (omega arith) ts m e).plain refl
