use Rattle.std.proofs.Common.{◌∙◌, ◌++◌, ℕ, List, ap, subst}
use Rattle.std.proofs.lemmas.List.{take_all}
use Rattle.tuple_core.proofs.Steps.{all_at}
use Rattle.served_models.specs.declared.commands.ServedCommand.{ServedCommand}
use Rattle.decision_reports.specs.Texts.{AreTexts}
use Rattle.decision_reports.proofs.TextLists.{texts_more}
use Rattle.explorer_run.specs.Served.{IsServable}
use Rattle.explorer_cli.specs.ServedCrews.{IsServedBlock}
use Rattle.explorer_cli.proofs.crew_texts.blocks_of.Goals as goal

pub block_of-requires-clause-servable : goal.block_of-requires-clause-servable
block_of-requires-clause-servable g c κs within =
    all_at (λ (x : ServedCommand). IsServable x.problem) c.args.commands.now c.loop-command.command-index c.command-item.result c.requires.servable c.loop-command-test.true c.command-item.is

pub loop-command-preserved : goal.loop-command-preserved
loop-command-preserved g c =
    let old = c.loop-command.text.items in
    texts_more (IsServedBlock c.args.workers c.args.budget c.args.name.now) c.args.commands.now c.loop-command.command-index c.command-item.result old c.extend_from_slice.new.self.items c.in_ok-lines.lines.items
    c.loop-command-test.true c.command-item.is (c.in_ok-extend_from_slice.ensures.items ∙ ap (λ (ys : List ℕ). old ++ ys) c.deref.ensures.value) c.loop-command.invariant c.in_ok-lines.ensures.text

pub returns : goal.returns
returns g c = record {
  texts =
      subst (λ (cs : List ServedCommand). AreTexts (IsServedBlock c.args.workers c.args.budget c.args.name.now) cs c.loop-command.text.items)
      (take_all c.loop-command.command-index c.args.commands.now c.loop-command-test.false) c.loop-command.invariant;
}
