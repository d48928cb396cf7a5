use Rattle.std.proofs.Common.{flat_map, map, sym, subst}
use Rattle.std.proofs.lemmas.List.{take_all}
use Rattle.alloy_syntax.specs.View.{paragraph_view}
use Rattle.sig_resolve.specs.Commands.Predicates.{run_of, AreRuns}
use Rattle.sig_resolve.proofs.Commands.Runs.{runs_taken}
use Rattle.sig_resolve.proofs.command_names.predicates.predicates_of.Goals as goal

pub loop-paragraph-preserved : goal.loop-paragraph-preserved
loop-paragraph-preserved c =
    subst (λ rs. AreRuns rs c.add.new.all.names c.add.new.all.higher.items) (sym (runs_taken c.args.paragraphs.now c.loop-paragraph.paragraph-index c.paragraph-item.result c.loop-paragraph-test.true c.paragraph-item.is))
    (c.in_ok-add.ensures _ c.loop-paragraph.invariant)

pub returns : goal.returns
returns c =
    subst (λ ps. AreRuns (flat_map run_of (map paragraph_view ps)) c.loop-paragraph.all.names c.loop-paragraph.all.higher.items) (take_all c.loop-paragraph.paragraph-index c.args.paragraphs.now c.loop-paragraph-test.false) c.loop-paragraph.invariant
