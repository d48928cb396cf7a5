use Rattle.std.proofs.Common.{true, arith}
use Rattle.alloy_grammar.proofs.WholeModels.{model_full}
use Rattle.alloy_grammar.proofs.laws.a_text_is_read.Goals as goal

pub returns : goal.returns
returns c ts m s d plain = model_full true 200 (omega arith) ts m s d (λ _. plain)
