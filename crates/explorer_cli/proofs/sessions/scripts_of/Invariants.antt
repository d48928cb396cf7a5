use Rattle.std.proofs.Common.{take}
use Rattle.std.specs.List.{AllZip}
use Rattle.explorer_cli.specs.Keys.{IsScriptOf}
use Rattle.explorer_cli.proofs.sessions.scripts_of.Given as goal

abbrev pub invariant-loop-session : goal.invariant-loop-session
invariant-loop-session l = AllZip (IsScriptOf l.models l.budget) (take l.session-index l.sessions) l.scripts.items
