use Rattle.std.proofs.Common.{◌≡◌, drop}
use Rattle.script_format.specs.Keys.{keys_from, keys_of}
use Rattle.script_format.proofs.keys.keys_of.Given as goal

abbrev pub invariant-loop-session : goal.invariant-loop-session
invariant-loop-session l = keys_from l.keys.items (drop l.session-index l.sessions) ≡ keys_of l.sessions
