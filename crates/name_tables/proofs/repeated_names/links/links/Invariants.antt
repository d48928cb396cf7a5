use Rattle.std.proofs.Common.{map, flat_map, take}
use Rattle.alloy_syntax.specs.View.{paragraph_view}
use Rattle.named_model.specs.Faults.{children}
use Rattle.name_tables.specs.Repeats.Numbered.{AreLinks}
use Rattle.name_tables.proofs.repeated_names.links.links.Given as goal

abbrev pub invariant-loop-paragraph : goal.invariant-loop-paragraph
invariant-loop-paragraph l = AreLinks l.words l.links.items (flat_map children (map paragraph_view (take l.paragraph-index l.paragraphs)))
