use Rattle.std.proofs.Common.{List, ℕ, Option, map, option_map, ◌++◌, sym, subst}
use Rattle.alloy_syntax.specs.declared.tree.Name.{Name}
use Rattle.alloy_syntax.specs.declared.tree.Parent.{Parent}
use Rattle.alloy_syntax.specs.declared.tree.Paragraph.{Paragraph}
use Rattle.alloy_syntax.specs.View.{paragraph_view}
use Rattle.named_model.specs.Faults.{children}
use Rattle.name_tables.specs.Repeats.Numbered.{AreLinks, child_of}
use Rattle.name_tables.proofs.Repeats.Parents.{links_kept}
use Rattle.name_tables.proofs.repeated_names.links.add_links.Goals as goal

pub returns-in_ok-add_names-in-Signatures : goal.returns-in_ok-add_names-in-Signatures
returns-in_ok-add_names-in-Signatures c = λ cs are.
    let parent : Option (List ℕ) = option_map (λ (p : Parent). p.name.text) c.in-Signatures.written.parent in
    subst (λ (p : Paragraph). AreLinks c.add_names.new.words c.add_names.new.links.items (cs ++ children (paragraph_view p))) (sym c.in-Signatures.is)
    (subst (λ (ns : List Name). AreLinks c.add_names.new.words c.add_names.new.links.items (cs ++ map (child_of parent) ns)) c.deref.ensures.value
    (c.in_ok-add_names-in-Signatures.ensures parent cs c.in_ok-parent-in-Signatures.ensures.number (links_kept c.args.words.now c.parent.new.words c.args.links.now.items cs c.in_ok-parent-in-Signatures.ensures.words are)))
