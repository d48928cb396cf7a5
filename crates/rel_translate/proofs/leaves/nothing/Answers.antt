use Rattle.rel_translate.proofs.Tabled.{nothing_well}
use Rattle.rel_translate.proofs.leaves.nothing.Goals as goal

pub returns : goal.returns
returns c = λ network. nothing_well network c.new-out.result c.new-out.ensures.entries c.new-out.ensures.arity c.entries.ensures.well
