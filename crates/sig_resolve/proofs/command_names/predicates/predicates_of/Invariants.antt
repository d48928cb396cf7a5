use Rattle.std.proofs.Common.{map, flat_map, take}
use Rattle.alloy_syntax.specs.View.{paragraph_view}
use Rattle.sig_resolve.specs.Commands.Predicates.{run_of, AreRuns}
use Rattle.sig_resolve.proofs.command_names.predicates.predicates_of.Given as goal

abbrev pub invariant-loop-paragraph : goal.invariant-loop-paragraph
invariant-loop-paragraph l = AreRuns (flat_map run_of (map paragraph_view (take l.paragraph-index l.paragraphs))) l.all.names l.all.higher.items
