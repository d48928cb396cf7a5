use Rattle.std.proofs.Common.{map, flat_map, take}
use Rattle.alloy_syntax.specs.View.{paragraph_view}
use Rattle.named_model.specs.Faults.{children, stated_from}
use Rattle.name_tables.specs.Repeats.Coded.{IsReading}
use Rattle.name_tables.proofs.repeated_names.stated.read.Given as goal

abbrev pub invariant-loop-number : goal.invariant-loop-number
invariant-loop-number l =
    IsReading (flat_map children (map paragraph_view l.paragraphs)) l.reading (stated_from (flat_map children (map paragraph_view l.paragraphs)) 0 (map paragraph_view (take l.number l.paragraphs)))
