use Rattle.std.proofs.Common.{◌++◌, map, sym, ap, ◌∙◌, subst}
use Rattle.alloy_syntax.specs.declared.tree.Name.{Name}
use Rattle.alloy_syntax.specs.declared.tree.Paragraph.{Paragraph}
use Rattle.alloy_syntax.specs.View.{paragraph_view}
use Rattle.named_model.specs.Faults.{children}
use Rattle.reference_cycles.specs.Cycles.Walks.{rows_of}
use Rattle.name_tables.specs.Parents.Graphs.{row_to, AddsChildren}
use Rattle.name_tables.proofs.Parents.LoopAdditions.{rows_of_names, places_of_names}
use Rattle.name_tables.proofs.parent_cycles.graph.add_children.Goals as goal

pub returns-in_ok-add_names-in-Signatures : goal.returns-in_ok-add_names-in-Signatures
returns-in_ok-add_names-in-Signatures c =
    let ss = c.args.names.now.globals.signatures in
    let old = c.args.graph.now in
    let parent = c.in-Signatures.written.parent in
    let number = c.number_of-parent.result in
    let added = c.in_ok-add_names-in-Signatures.ensures in
    subst (λ (p : Paragraph). AddsChildren ss (children (paragraph_view p)) old c.add_names.new.graph) (sym c.in-Signatures.is)
    (record {
      rows_are = added.rows_are ∙ ap (λ zs. rows_of old.rows.items ++ zs) (ap (map (λ (n : Name). row_to number)) c.deref.ensures.value ∙ rows_of_names ss parent number c.in-Signatures.written.names.items c.number_of-parent.ensures);
      places_are = added.places_are ∙ ap (λ zs. old.places.items ++ zs) (ap (map (λ (n : Name). n.place)) c.deref.ensures.value ∙ places_of_names parent c.in-Signatures.written.names.items);
    })
