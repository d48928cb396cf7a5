use Rattle.std.proofs.Common.{Contains}
use Rattle.rel_terms.proofs.Uppers.{lies_in}
use Rattle.rel_terms.proofs.laws.values_lie_in_uppers.Goals as goal

pub returns : goal.returns
returns c = λ p well s. lies_in p (Contains s) well
