use Rattle.work_limits.proofs.TranslationVariables.{few_variables}
use Rattle.work_limits.proofs.laws.translations_have_few_variables.Goals as goal

pub returns : goal.returns
returns c t is formula terms has pool vars = few_variables t is formula terms has pool vars
