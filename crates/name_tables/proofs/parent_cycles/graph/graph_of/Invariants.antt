use Rattle.std.proofs.Common.{◌≡◌, ◌++◌, map, flat_map, drop}
use Rattle.alloy_syntax.specs.View.{paragraph_view}
use Rattle.named_model.specs.Faults.{children}
use Rattle.reference_cycles.specs.Cycles.Walks.{rows_of}
use Rattle.name_tables.specs.Parents.Graphs.{row_of, place_of}
use Rattle.name_tables.proofs.parent_cycles.graph.graph_of.Given as goal

abbrev pub invariant-loop-paragraph : goal.invariant-loop-paragraph
invariant-loop-paragraph l = record {
  rows : rows_of l.graph.rows.items ++ map (row_of l.names.globals.signatures) (flat_map children (map paragraph_view (drop l.paragraph-index l.paragraphs))) ≡ map (row_of l.names.globals.signatures) (flat_map children (map paragraph_view l.paragraphs));
  places : l.graph.places.items ++ map place_of (flat_map children (map paragraph_view (drop l.paragraph-index l.paragraphs))) ≡ map place_of (flat_map children (map paragraph_view l.paragraphs));
}
