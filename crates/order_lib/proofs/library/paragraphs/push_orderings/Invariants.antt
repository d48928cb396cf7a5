use Rattle.std.proofs.Common.{◌≡◌, ◌++◌, map, flat_map, take}
use Rattle.alloy_syntax.specs.View.{paragraph_view}
use Rattle.order_lib.specs.Library.{paragraphs_of}
use Rattle.order_lib.proofs.library.paragraphs.push_orderings.Given as goal

abbrev pub invariant-loop-ordering : goal.invariant-loop-ordering
invariant-loop-ordering l =
    map paragraph_view l.paragraphs.items ≡ map paragraph_view l.initial.paragraphs.items ++ flat_map paragraphs_of (take l.ordering-index l.opens)
