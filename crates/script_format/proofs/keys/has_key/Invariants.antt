use Rattle.std.proofs.Common.{◌≡◌, length}
use Rattle.std.specs.List.{list_any}
use Rattle.script_format.specs.Keys.{is_key}
use Rattle.script_format.proofs.keys.has_key.Given as goal

abbrev pub invariant-each : goal.invariant-each
invariant-each l = list_any (is_key l.key) l.rest ≡ list_any (is_key l.key) l.keys

abbrev pub decreases-each : goal.decreases-each
decreases-each l = length l.rest
