use Rattle.alloy_grammar.proofs.WholeModels.{one_tree}
use Rattle.alloy_grammar.proofs.laws.a_text_has_one_tree.Goals as goal

pub returns : goal.returns
returns c ts m n s t = one_tree ts m n s t
