use Rattle.std.proofs.Common.{◌≡◌, List, map, flat_map, drop}
use Rattle.alloy_syntax.specs.Tree.{ParagraphTree}
use Rattle.alloy_syntax.specs.View.{paragraph_view}
use Rattle.named_model.specs.Answers.{first_in}
use Rattle.named_model.specs.Faults.{command_faults}
use Rattle.sig_resolve.specs.Commands.Predicates.{run_of, AreRuns}
use Rattle.sig_resolve.proofs.command_names.faults.first_of.Given as goal

abbrev pub invariant-loop-paragraph : goal.invariant-loop-paragraph
invariant-loop-paragraph l =
    (ps : List ParagraphTree) → AreRuns (flat_map run_of ps) l.predicates.names l.predicates.higher.items
    → first_in (flat_map (command_faults ps l.names.globals) (map paragraph_view (drop l.paragraph-index l.paragraphs))) ≡ first_in (flat_map (command_faults ps l.names.globals) (map paragraph_view l.paragraphs))
