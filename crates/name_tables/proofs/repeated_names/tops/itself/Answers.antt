use Rattle.std.proofs.Common.{sym, ◌∙◌}
use Rattle.name_tables.proofs.Repeats.Tables.{itself_is, itself_top}
use Rattle.name_tables.proofs.repeated_names.tops.itself.Goals as goal

pub returns-in-Some : goal.returns-in-Some
returns-in-Some c = itself_is c.args.table.now c.args.number c.in-Some.field-0 (sym c.parent.ensures ∙ c.in-Some.is)

pub returns-in-None : goal.returns-in-None
returns-in-None c = itself_top c.args.table.now c.args.number (sym c.parent.ensures ∙ c.in-None.is)
