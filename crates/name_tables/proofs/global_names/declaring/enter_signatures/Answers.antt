use Rattle.std.proofs.Common.{◌∙◌, sym, ap}
use Rattle.name_tables.specs.InForce.{with_signature}
use Rattle.name_tables.proofs.Globals.GrowingNames.{signatures_more, signatures_none}
use Rattle.name_tables.proofs.global_names.declaring.enter_signatures.Goals as goal

pub loop-name-preserved : goal.loop-name-preserved
loop-name-preserved c =
    signatures_more c.loop-name.names c.declare_signature.new.self _ c.args.new.now c.loop-name.name-index c.name-item.result c.loop-name-test.true c.name-item.is
    (c.in_ok-declare_signature.ensures.ok ∙ ap (with_signature c.loop-name.names) c.text.ensures.value) c.loop-name.invariant

pub returns : goal.returns
returns c = sym (signatures_none c.loop-name.names c.args.new.now c.loop-name.name-index c.loop-name-test.false) ∙ c.loop-name.invariant
