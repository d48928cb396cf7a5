use Rattle.std.proofs.Common.{◌∙◌, sym, ap}
use Rattle.name_tables.specs.InForce.{with_field}
use Rattle.name_tables.proofs.Globals.GrowingNames.{owners_more, owners_none}
use Rattle.name_tables.proofs.global_names.declaring.enter_each.Goals as goal

pub loop-preserved : goal.loop-preserved
loop-preserved c =
    owners_more c.loop.names c.declare_field.new.self _ c.args.name.now c.args.owners.now c.loop.index c.loop-test.true
    (c.in_ok-declare_field.ensures.ok ∙ ap (with_field c.loop.names) c.text.ensures.value) c.loop.invariant

pub returns : goal.returns
returns c = sym (owners_none c.loop.names c.args.name.now c.args.owners.now c.loop.index c.loop-test.false) ∙ c.loop.invariant
