use Rattle.std.proofs.Common.{◌≡◌, ◌++◌, map, drop}
use Rattle.alloy_syntax.specs.declared.tree.Name.{Name}
use Rattle.reference_cycles.specs.Cycles.Walks.{rows_of}
use Rattle.name_tables.specs.Parents.Graphs.{row_to}
use Rattle.name_tables.proofs.parent_cycles.graph.add_names.Given as goal

abbrev pub invariant-loop-name : goal.invariant-loop-name
invariant-loop-name l = record {
  rows : rows_of l.graph.rows.items ++ map (λ (n : Name). row_to l.parent) (drop l.name-index l.names) ≡ rows_of l.fn.graph.rows.items ++ map (λ (n : Name). row_to l.parent) l.names;
  places : l.graph.places.items ++ map (λ (n : Name). n.place) (drop l.name-index l.names) ≡ l.fn.graph.places.items ++ map (λ (n : Name). n.place) l.names;
}
