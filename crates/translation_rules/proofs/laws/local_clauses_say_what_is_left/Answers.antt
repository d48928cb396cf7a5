use Rattle.translation_rules.proofs.LocalClauseLemmas.{left_said}
use Rattle.translation_rules.proofs.laws.local_clauses_say_what_is_left.Goals as goal

pub returns : goal.returns
returns c p t stands floor blocked floor_in blocked_in s scenario =
    left_said p t stands s scenario floor blocked floor_in blocked_in (c.free_swaps_are_tested.ensures.settled p floor s) (λ picks. c.an_instance_can_satisfy_both.ensures p t stands picks s)
