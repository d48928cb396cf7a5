use Rattle.std.proofs.Common.{◌∙◌, sym}
use Rattle.name_tables.proofs.Globals.GrowingNames.{paragraphs_more, paragraphs_none}
use Rattle.name_tables.proofs.global_names.declaring.global_names.Goals as goal

pub loop-paragraph-preserved : goal.loop-paragraph-preserved
loop-paragraph-preserved c = paragraphs_more c.loop-paragraph.names c.declare.new.names _ c.args.paragraphs.now c.loop-paragraph.paragraph-index c.paragraph-item.result c.loop-paragraph-test.true c.paragraph-item.is c.in_ok-declare.ensures c.loop-paragraph.invariant

pub returns : goal.returns
returns c = sym (paragraphs_none c.loop-paragraph.names c.args.paragraphs.now c.loop-paragraph.paragraph-index c.loop-paragraph-test.false) ∙ c.loop-paragraph.invariant
