use Rattle.std.proofs.Common.{take}
use Rattle.decision_reports.specs.Texts.{AreTexts}
use Rattle.explorer_cli.specs.ServedCrews.{IsServedBlock}
use Rattle.explorer_cli.proofs.crew_texts.blocks_of.Given as goal

abbrev pub invariant-loop-command : goal.invariant-loop-command
invariant-loop-command g l = AreTexts (IsServedBlock l.workers l.budget l.name) (take l.command-index l.commands) l.text.items
