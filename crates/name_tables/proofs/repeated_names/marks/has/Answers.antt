use Rattle.std.proofs.Common.{◌∙◌}
use Rattle.name_tables.proofs.Repeats.DeclaredMarks.{any_has}
use Rattle.name_tables.proofs.repeated_names.marks.has.Goals as goal

pub returns : goal.returns
returns c = λ ms are. c.contains.ensures ∙ any_has c.args.mark c.args.marks.now.keys ∙ are c.args.mark
