-- What holds of all that is read.
use Rattle.std.specs.Prelude.{◌≤◌, ◌<◌, length}
use Rattle.std.specs.List.{AllByRecursion}
use Rattle.script_format.specs.declared.line.Open.{Open}
use Rattle.script_format.specs.declared.line.Open.TheVariants as open_
use Rattle.script_format.specs.Keys.{keys_of}
use Rattle.script_format.specs.Reading.{Reading, most_commands, most_asked}

-- what the last directive began is there
abbrev pub IsThere : Reading → Open → Type 0
IsThere r open_.Nothing = Unit {0}
IsThere r (open_.Model k) = k < length r.models
IsThere r (open_.Session k) = k < length r.sessions

-- what was read keeps to the limits
pub record IsSound (r : Reading) : Type 0 where
  pub there : IsThere r r.began
  pub models : length r.models ≤ 16
  pub sessions : length r.sessions ≤ 64
  pub keys : length (keys_of r.sessions) ≤ 16
  pub commands : r.commands ≤ most_commands
  pub asked : r.asked ≤ most_asked
  pub named : AllByRecursion (λ s. s.model < length r.models) r.sessions
