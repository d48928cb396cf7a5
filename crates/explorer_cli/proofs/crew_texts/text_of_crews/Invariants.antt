use Rattle.std.proofs.Common.{take}
use Rattle.explorer_cli.specs.ServedCrews.{AreServedTexts}
use Rattle.explorer_cli.proofs.crew_texts.text_of_crews.Given as goal

abbrev pub invariant-loop-place : goal.invariant-loop-place
invariant-loop-place g l = AreServedTexts l.workers l.budget (take l.place l.entries) (take l.place l.models) l.text.items
