use Rattle.std.proofs.Common.{◌≤◌, length, ap, ◌∙◌, sym, arith}
use Rattle.name_tables.specs.Occurrence.{occurrence}
use Rattle.name_tables.proofs.Occurrences.{outside}
use Rattle.name_tables.proofs.firsts.Firsts.occurrence.Goals as goal

pub returns-else-number-len : goal.returns-else-number-len
returns-else-number-len c =
    let past : length c.self.inside.occurrences.items ≤ c.args.number = omega (arith, c.if-number-len.false, c.len.ensures) in
    sym (outside c.self.inside.numbers.items c.self.inside.occurrences.items c.self.invariant c.args.number past) ∙ ap (occurrence c.args.number) c.self.view_is
