use Rattle.std.proofs.Common.{sym, ◌∙◌}
use Rattle.renaming_classes.proofs.Decided.{kept_stands, other_stands}
use Rattle.renaming_classes.proofs.orbits.stand_in.Goals as goal

pub returns-then-contains : goal.returns-then-contains
returns-then-contains c = sym (kept_stands c.args.kept.now c.args.others.now c.args.atom (sym c.contains.ensures.value ∙ c.if-contains.true))

pub returns-else-contains : goal.returns-else-contains
returns-else-contains c = c.first_of.ensures ∙ sym (other_stands c.args.kept.now c.args.others.now c.args.atom (sym c.contains.ensures.value ∙ c.if-contains.false))
