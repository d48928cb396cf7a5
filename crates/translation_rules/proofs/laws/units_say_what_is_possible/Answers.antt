use Rattle.translation_rules.proofs.LocalClauseLemmas.{possible_said}
use Rattle.translation_rules.proofs.laws.units_say_what_is_possible.Goals as goal

pub returns : goal.returns
returns c p t stands cells are s scenario = possible_said p t stands s scenario cells are
