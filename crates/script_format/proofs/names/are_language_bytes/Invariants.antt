use Rattle.std.proofs.Common.{◌≡◌, length}
use Rattle.std.specs.List.{list_all}
use Rattle.script_format.specs.Tuples.{is_language_byte}
use Rattle.script_format.proofs.names.are_language_bytes.Given as goal

abbrev pub invariant-each : goal.invariant-each
invariant-each l = list_all is_language_byte l.rest ≡ list_all is_language_byte l.bytes

abbrev pub decreases-each : goal.decreases-each
decreases-each l = length l.rest
