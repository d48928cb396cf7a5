use Rattle.std.proofs.Common.{[], ◌∷◌, map, refl}
use Rattle.alloy_syntax.specs.declared.tree.Name.{Name}
use Rattle.reference_cycles.specs.Cycles.Walks.{rows_of}
use Rattle.name_tables.specs.Parents.Graphs.{row_to}
use Rattle.name_tables.proofs.Parents.LoopAdditions.{one_more, all_added, row_pushed}
use Rattle.name_tables.proofs.parent_cycles.graph.add_names.Goals as goal

pub loop-name-preserved : goal.loop-name-preserved
loop-name-preserved c = record {
  rows = one_more (map (λ (n : Name). row_to c.args.parent)) (λ (n : Name). row_to c.args.parent ∷ []) c.args.names.now c.loop-name.name-index (rows_of c.loop-name.graph.rows.items) _ c.loop-name.invariant.rows
      c.name-item.result (rows_of c.push.new.self.items) (λ n ns. refl) c.loop-name-test.true c.name-item.is
      (row_pushed c.loop-name.graph.rows.items c.push.new.self.items c.in_ok-row.row (row_to c.args.parent) c.in_ok-push.ensures.items c.in_ok-row.ensures);
  places = one_more (map (λ (n : Name). n.place)) (λ (n : Name). n.place ∷ []) c.args.names.now c.loop-name.name-index c.loop-name.graph.places.items _ c.loop-name.invariant.places
      c.name-item.result c.push-in-loop-name.new.self.items (λ n ns. refl) c.loop-name-test.true c.name-item.is c.in_ok-push-2.ensures.items;
}

pub returns : goal.returns
returns c = record {
  rows_are = all_added (map (λ (n : Name). row_to c.args.parent)) (λ (n : Name). row_to c.args.parent ∷ []) c.args.names.now c.loop-name.name-index (rows_of c.loop-name.graph.rows.items) _ c.loop-name.invariant.rows refl c.loop-name-test.false;
  places_are = all_added (map (λ (n : Name). n.place)) (λ (n : Name). n.place ∷ []) c.args.names.now c.loop-name.name-index c.loop-name.graph.places.items _ c.loop-name.invariant.places refl c.loop-name-test.false;
}
