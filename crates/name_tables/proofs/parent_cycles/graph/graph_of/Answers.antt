use Rattle.std.proofs.Common.{map, flat_map, refl}
use Rattle.std.proofs.lemmas.List.{map-append}
use Rattle.alloy_syntax.specs.View.{paragraph_view}
use Rattle.named_model.specs.Faults.{children}
use Rattle.reference_cycles.specs.Cycles.Walks.{rows_of}
use Rattle.name_tables.specs.Parents.Graphs.{row_of, place_of}
use Rattle.name_tables.proofs.Parents.LoopAdditions.{one_more, all_added}
use Rattle.name_tables.proofs.parent_cycles.graph.graph_of.Goals as goal

pub loop-paragraph-preserved : goal.loop-paragraph-preserved
loop-paragraph-preserved c =
    let ss = c.args.names.now.globals.signatures in
    record {
      rows = one_more (λ ps. map (row_of ss) (flat_map children (map paragraph_view ps))) (λ p. map (row_of ss) (children (paragraph_view p))) c.args.paragraphs.now c.loop-paragraph.paragraph-index (rows_of c.loop-paragraph.graph.rows.items) _ c.loop-paragraph.invariant.rows
          c.paragraph-item.result (rows_of c.add_children.new.graph.rows.items) (λ p ps. map-append (row_of ss) (children (paragraph_view p)) (flat_map children (map paragraph_view ps))) c.loop-paragraph-test.true c.paragraph-item.is c.in_ok-add_children.ensures.rows_are;
      places = one_more (λ ps. map place_of (flat_map children (map paragraph_view ps))) (λ p. map place_of (children (paragraph_view p))) c.args.paragraphs.now c.loop-paragraph.paragraph-index c.loop-paragraph.graph.places.items _ c.loop-paragraph.invariant.places
          c.paragraph-item.result c.add_children.new.graph.places.items (λ p ps. map-append place_of (children (paragraph_view p)) (flat_map children (map paragraph_view ps))) c.loop-paragraph-test.true c.paragraph-item.is c.in_ok-add_children.ensures.places_are;
    }

pub returns : goal.returns
returns c =
    let ss = c.args.names.now.globals.signatures in
    record {
      rows_are = all_added (λ ps. map (row_of ss) (flat_map children (map paragraph_view ps))) (λ p. map (row_of ss) (children (paragraph_view p))) c.args.paragraphs.now c.loop-paragraph.paragraph-index (rows_of c.loop-paragraph.graph.rows.items) _ c.loop-paragraph.invariant.rows refl c.loop-paragraph-test.false;
      places_are = all_added (λ ps. map place_of (flat_map children (map paragraph_view ps))) (λ p. map place_of (children (paragraph_view p))) c.args.paragraphs.now c.loop-paragraph.paragraph-index c.loop-paragraph.graph.places.items _ c.loop-paragraph.invariant.places refl c.loop-paragraph-test.false;
    }
