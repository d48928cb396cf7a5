use Rattle.std.proofs.Common.{refl}
use Rattle.alloy_types.proofs.Declarations.Settling.{parts_same}
use Rattle.alloy_types.proofs.same_declarations.laws.parts_are_settled_alike.Goals as goal

pub returns : goal.returns
returns c = λ d e s ls ms h tops x. parts_same d e s ls ms h tops tops (λ t. refl) x
