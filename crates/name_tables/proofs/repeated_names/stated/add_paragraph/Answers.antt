use Rattle.std.proofs.Common.{◌++◌, sym, subst}
use Rattle.alloy_syntax.specs.declared.tree.Paragraph.{Paragraph}
use Rattle.alloy_syntax.specs.View.{paragraph_view}
use Rattle.named_model.specs.Faults.{stated_in}
use Rattle.name_tables.specs.Repeats.Coded.{IsReading}
use Rattle.name_tables.proofs.repeated_names.stated.add_paragraph.Goals as goal

pub returns-in_ok-add_signatures-in-Signatures : goal.returns-in_ok-add_signatures-in-Signatures
returns-in_ok-add_signatures-in-Signatures c = λ cs before is.
    subst (λ (p : Paragraph). IsReading cs c.add_signatures.new.reading (before ++ stated_in cs c.args.number (paragraph_view p))) (sym c.in-Signatures.is)
    (c.in_ok-add_signatures-in-Signatures.ensures cs before c.args.number is)
