use Rattle.std.proofs.Common.{List, map, flat_map, sym, subst, arith}
use Rattle.alloy_syntax.specs.View.{paragraph_view}
use Rattle.named_model.specs.Faults.{Child, children, stated_from}
use Rattle.name_tables.specs.Repeats.Coded.{IsReading}
use Rattle.name_tables.proofs.Repeats.ListsGoneOver.{all_taken}
use Rattle.name_tables.proofs.Repeats.Loops.{paragraphs_more}
use Rattle.name_tables.proofs.repeated_names.stated.read.Goals as goal

pub loop-number-preserved : goal.loop-number-preserved
loop-number-preserved c =
    let cs : List Child = flat_map children (map paragraph_view c.args.paragraphs.now) in
    subst (λ xs. IsReading cs c.add_paragraph.new.reading xs) (sym (paragraphs_more cs c.args.paragraphs.now c.loop-number.number c.index-paragraphs-number.result c.loop-number-test.true c.index-paragraphs-number.is))
    (c.in_ok-add_paragraph.ensures cs _ c.loop-number.invariant)

pub returns : goal.returns
returns c =
    let cs : List Child = flat_map children (map paragraph_view c.args.paragraphs.now) in
    subst (λ xs. IsReading cs c.loop-number.reading xs) (all_taken (λ ps. stated_from cs 0 (map paragraph_view ps)) c.args.paragraphs.now c.loop-number.number (omega arith)) c.loop-number.invariant
