use Rattle.alloy_types.proofs.Declarations.Settling.{all_formulas_same}
use Rattle.alloy_types.proofs.same_declarations.laws.formulas_are_settled_alike.Goals as goal

pub returns : goal.returns
returns c = all_formulas_same
