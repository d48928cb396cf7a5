use Rattle.std.proofs.Common.{List, ◌∷◌, ◌++◌, append_assoc, ap, ◌∙◌}
use Rattle.hub_state.specs.Journal.Noted.{Noted}
use Rattle.hub_state.proofs.journal_rules.laws.a_prefix_is_legal.Goals as goal

pub returns : goal.returns
returns c problems before after legal front x back split =
    legal front x (back ++ after) (ap (λ (j : List Noted). j ++ after) split ∙ append_assoc front (x ∷ back) after)
