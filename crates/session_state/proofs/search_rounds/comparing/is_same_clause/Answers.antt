use Rattle.std.proofs.Common.{◌∙◌, sym}
use Rattle.session_state.proofs.search_rounds.comparing.is_same_clause.Goals as goal

pub returns : goal.returns
returns c = λ t. sym c.lits.ensures.lits ∙ c.are_same_lits.ensures t ∙ c.lits-2.ensures.lits
