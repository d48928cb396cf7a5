use Rattle.std.proofs.Common.{[], map, flat_map, sym, subst}
use Rattle.alloy_syntax.specs.View.{paragraph_view}
use Rattle.named_model.specs.Faults.{children}
use Rattle.name_tables.specs.Repeats.Numbered.{AreLinks}
use Rattle.name_tables.proofs.Repeats.ListsGoneOver.{seen_more, all_taken}
use Rattle.name_tables.proofs.repeated_names.links.links.Goals as goal

pub loop-paragraph-preserved : goal.loop-paragraph-preserved
loop-paragraph-preserved c =
    subst (λ cs. AreLinks c.add_links.new.words c.add_links.new.links.items cs) (sym (seen_more paragraph_view children [] c.args.paragraphs.now c.loop-paragraph.paragraph-index c.paragraph-item.result c.loop-paragraph-test.true c.paragraph-item.is))
    (c.in_ok-add_links.ensures _ c.loop-paragraph.invariant)

pub returns : goal.returns
returns c =
    subst (λ cs. AreLinks c.loop-paragraph.words c.loop-paragraph.links.items cs) (all_taken (λ ps. flat_map children (map paragraph_view ps)) c.args.paragraphs.now c.loop-paragraph.paragraph-index c.loop-paragraph-test.false)
    c.loop-paragraph.invariant
