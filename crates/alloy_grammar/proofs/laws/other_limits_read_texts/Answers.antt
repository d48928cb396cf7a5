use Rattle.alloy_grammar.proofs.Models.{model_read}
use Rattle.alloy_grammar.proofs.WholeModels.{model_full}
use Rattle.alloy_grammar.proofs.laws.other_limits_read_texts.Goals as goal

pub returns-clause-spelled : goal.returns-clause-spelled
returns-clause-spelled c strict limit some ts m e = (model_read strict limit some ts m e).spelled

pub returns-clause-shallow : goal.returns-clause-shallow
returns-clause-shallow c strict limit some ts m e = (model_read strict limit some ts m e).shallow

pub returns-clause-read : goal.returns-clause-read
returns-clause-read c strict limit some ts m s d plain = model_full strict limit some ts m s d plain
