use Rattle.std.proofs.Common.{◌==◌, ap, ◌∙◌, arith, if◌then◌else◌}
use Rattle.name_tables.proofs.Repeats.Tables.{grown, entry_set}
use Rattle.name_tables.proofs.repeated_names.tops.set.Goals as goal

pub grow-preserved : goal.grow-preserved
grow-preserved c = λ w. grown c.grow.table.items c.push.new.self.items w c.in_ok-push.ensures.items ∙ c.grow.invariant w

pub returns : goal.returns
returns c = λ w.
    entry_set c.grow.table.items c.args.link.now.name c.args.link.now.parent w (omega (arith, c.grow-test.false))
    ∙ ap (λ o. if c.args.link.now.name == w then c.args.link.now.parent else o) (c.grow.invariant w)
