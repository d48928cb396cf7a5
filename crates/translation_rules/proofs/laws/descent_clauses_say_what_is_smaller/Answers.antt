use Rattle.translation_rules.proofs.LocalClauseLemmas.{smaller_said}
use Rattle.translation_rules.proofs.laws.descent_clauses_say_what_is_smaller.Goals as goal

pub returns : goal.returns
returns c p t stands floor from floor_in from_in s scenario = smaller_said p t stands s scenario floor from floor_in from_in
