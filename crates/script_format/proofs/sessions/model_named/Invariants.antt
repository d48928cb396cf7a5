use Rattle.std.proofs.Common.{◌≡◌, ◌+◌, map, length}
use Rattle.script_format.specs.Reading.{place_from}
use Rattle.script_format.proofs.sessions.model_named.Given as goal

abbrev pub invariant-each : goal.invariant-each
invariant-each l = record {
  value : place_from l.place l.name (map (λ x. x.name) l.rest) ≡ place_from 0 l.name (map (λ x. x.name) l.models);
  count : l.place + length l.rest ≡ length l.models;
}

abbrev pub decreases-each : goal.decreases-each
decreases-each l = length l.rest
