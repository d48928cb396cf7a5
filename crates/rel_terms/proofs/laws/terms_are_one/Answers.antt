use Rattle.std.proofs.Common.{[]}
use Rattle.rel_terms.specs.Upper.{upper_structure}
use Rattle.rel_terms.proofs.OneCount.{formula_once}
use Rattle.rel_terms.proofs.laws.terms_are_one.Goals as goal

pub returns : goal.returns
returns c = λ p. formula_once (upper_structure p) [] p.formula
