use Rattle.rel_translate.proofs.Tabled.{single_well}
use Rattle.rel_translate.proofs.leaves.single.Goals as goal

pub returns : goal.returns
returns c = λ network always. single_well network c.new-out.result c.put.new.self c.args.always c.args.atom c.single.result c.new-out.ensures.entries c.new-out.ensures.arity c.single.ensures c.entries.ensures.well c.in_ok-put.ensures.gains always
